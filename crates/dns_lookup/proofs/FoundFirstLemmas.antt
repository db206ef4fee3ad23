-- The first set of the answer's step is served by what was kept of it, and stays so.
use Rattle.std.proofs.Common.{ℕ, ◌≡◌, ◌≢◌, Bool, true, false, ◌&&◌, nat_lt, cond, List, [], ◌∷◌, ◌++◌, slice_get, Option, None, Some, if◌then◌else◌, refl, sym, ap, subst, ◌∙◌, inl, inr, ◌⊎◌, true≢false}
use Rattle.std.specs.List.{find, list_any, IsDistinct}
use Rattle.std.specs.Option.{option_map, IfSome}
use Rattle.std.proofs.lemmas.Bool.{and_from, and_parts, or_cases}
use Rattle.dns_model.specs.declared.trail.MarkOrigin.TheVariants.{Cache}
use Rattle.dns_model.specs.Chains.{Judge}
use Rattle.dns_model.specs.Records.{Question}
use Rattle.dns_model.specs.SoundAnswers.{PlacedSet, placed_sets, told_by}
use Rattle.dns_model.specs.Trails.{AskedValue}
use Rattle.dns_rules.specs.CacheEntries.{EntryValue, is_live, live}
use Rattle.dns_rules.specs.CacheKeys.{CacheKeyValue, key_of, key_eq}
use Rattle.dns_rules.specs.Serving.{may_serve, still_holds}
use Rattle.dns_cache.specs.CacheLists.{CacheList, IsCacheList, has_key, is_hit, hit}
use Rattle.dns_cache.specs.declared.acceptance.Acceptance.{Acceptance}
use Rattle.dns_cache.specs.declared.acceptance.Acceptance.TheVariants.{Kept, Unknown, Other}
use Rattle.dns_cache.proofs.ListLemmas.{NoneHas, keys, apart, rest_distinct}
use Rattle.dns_handle.specs.Errors.{Reply}
use Rattle.dns_flow.specs.declared.asks.Ask.{Ask}
use Rattle.dns_flow.specs.Phases.{judged_ask}
use Rattle.dns_validation.specs.Machine.{Terms, SoFar, OpenValue, SeekingValue, MadeValue, StateValue, first_left, next_in, with_set, serving, holds_given, served_set, served_entry, origin_of, found_by_entry, found_in, found, set_item}
use Rattle.dns_validation.specs.Runs.{IsIn, Sent, Run, HasTaken}
use Rattle.dns_validation.proofs.RunLemmas.{run_stands}
use Rattle.dns_validation.proofs.Stands.{Stand, Waits, Seeks, Moves, Done}
use Rattle.dns_lookup.specs.Caching.{is_from_cache}
use Rattle.dns_lookup.specs.Driving.{after_inserts, kept_all, bottom, may_be_served, is_first_served, HeadServed, TopServed, IsUntouched, FirstServed, NotYet, AtFirst, Behind, Over}
use Rattle.dns_lookup.specs.LookupAnswers.{OfAnswer}
use Rattle.dns_lookup.proofs.FirstLemmas.{bottom_any, bottom_over, bottom_one, bottom_sought, bottom_none, so_far_same, served_more, behind, next_alone, next_over, turns_first}

-- ---- what was kept of a set

-- the entry of a told list that may serve is the one that is given
given_step : (key : CacheKeyValue) (now : ℕ) (x e : EntryValue) (b : Bool) (rest : List EntryValue)
    → is_hit key now x ≡ b → is_hit key now e ≡ true
    → (e ≡ x) ⊎ IsIn e rest → NoneHas key rest ⊎ (b ≡ false) → (IsIn e rest → find (is_hit key now) rest ≡ Some e)
    → cond b (Some x) (find (is_hit key now) rest) ≡ Some e
given_step key now x e true rest is hits (inl same) apart_in later = ap (λ y. Some y) (sym same)
given_step key now x e true rest is hits (inr h) (inl none) later =
    absurd (none_of e rest none h ((and_parts (has_key key e) (nat_lt now e.expires) hits).0))
  where
    none_of : (y : EntryValue) (ys : List EntryValue) → NoneHas key ys → IsIn y ys → has_key key y ≡ true → ⊥
    none_of y [] none at has = at
    none_of y (z ∷ ys) none (inl same) has = true≢false (sym has ∙ ap (has_key key) same ∙ none.0)
    none_of y (z ∷ ys) none (inr at) has = none_of y ys none.1 at has
given_step key now x e true rest is hits (inr h) (inr differs) later = absurd (true≢false differs)
given_step key now x e false rest is hits (inl same) apart_in later =
    absurd (true≢false (sym hits ∙ ap (is_hit key now) same ∙ is))
given_step key now x e false rest is hits (inr h) apart_in later = later h

apart_by : (key : CacheKeyValue) (now : ℕ) (x : EntryValue) (rest : List EntryValue) (b : Bool) → is_hit key now x ≡ b
    → IsDistinct key_eq (keys (x ∷ rest))
    → NoneHas key rest ⊎ (b ≡ false)
apart_by key now x rest true is distinct =
    inl (apart key x rest distinct ((and_parts (has_key key x) (nat_lt now x.expires) is).0))
apart_by key now x rest false is distinct = inr refl

hit_in : (key : CacheKeyValue) (now : ℕ) (entries : List EntryValue) (e : EntryValue) → IsDistinct key_eq (keys entries)
    → IsIn e entries → is_hit key now e ≡ true
    → find (is_hit key now) entries ≡ Some e
hit_in key now [] e distinct h hits = absurd h
hit_in key now (x ∷ entries) e distinct h hits =
    given_step key now x e (is_hit key now x) entries refl hits h
    (apart_by key now x entries (is_hit key now x) refl distinct)
    (λ later. hit_in key now entries e (rest_distinct x entries distinct) later hits)

-- one of a list passes where one does
record Passes (p : EntryValue → Bool) (entries : List EntryValue) : Type 0 where
  it : EntryValue
  among : IsIn it entries
  is : p it ≡ true

passes_step : (p : EntryValue → Bool) (x : EntryValue) (entries : List EntryValue) → (p x ≡ true)
    ⊎ (list_any p entries ≡ true)
    → (list_any p entries ≡ true → Passes p entries) → Passes p (x ∷ entries)
passes_step p x entries (inl here) later = record { it = x; among = inl refl; is = here }
passes_step p x entries (inr h) later =
    let there = later h in record { it = there.it; among = inr there.among; is = there.is }

passes : (p : EntryValue → Bool) (entries : List EntryValue) → list_any p entries ≡ true → Passes p entries
passes p [] h = cc
passes p (x ∷ entries) h =
    passes_step p x entries (or_cases (p x) (list_any p entries) h) (λ later. passes p entries later)

live_step : (now : ℕ) (e x : EntryValue) (b : Bool) (rest : List EntryValue) → is_live now x ≡ b
    → IsIn e (cond b (x ∷ live now rest) (live now rest))
    → (IsIn e (live now rest) → IsIn e rest × (is_live now e ≡ true)) → IsIn e (x ∷ rest) × (is_live now e ≡ true)
live_step now e x true rest is (inl same) later = (inl same, ap (is_live now) same ∙ is)
live_step now e x true rest is (inr h) later = let there = later h in (inr there.0, there.1)
live_step now e x false rest is h later = let there = later h in (inr there.0, there.1)

of_live : (now : ℕ) (e : EntryValue) (entries : List EntryValue) → IsIn e (live now entries) → IsIn e entries
    × (is_live now e ≡ true)
of_live now e [] h = absurd h
of_live now e (x ∷ entries) h = live_step now e x (is_live now x) entries refl h (λ later. of_live now e entries later)

-- it serves
holds_known : (a : Acceptance) (j : Judge) (placed : PlacedSet) (e : EntryValue) → a ≢ Other
    → still_holds j placed e ≡ true → holds_given a j placed e ≡ true
holds_known Kept j placed e not_other holds = holds
holds_known Unknown j placed e not_other holds = holds
holds_known Other j placed e not_other holds = absurd (not_other refl)

served_given : (j : Judge) (q : Question) (placed : PlacedSet) (given : Option (EntryValue × Acceptance)) (e : EntryValue)
    → option_map (λ p. p.0) given ≡ Some e
    → IfSome given (λ p. p.1 ≢ Other) → key_eq (key_of q placed.set) e.key ≡ true → still_holds j placed e ≡ true
    → serving j q placed given ≡ Some e
served_given j q placed None e is known fits holds = cc
served_given j q placed (Some p) e is known fits holds =
    let same : p.0 ≡ e = entry_same p.0 e is in
    ap (λ b. if b then Some p.0 else None)
    (and_from (key_eq (key_of q placed.set) p.0.key) (holds_given p.1 j placed p.0)
    (subst (λ x. key_eq (key_of q placed.set) x.key ≡ true) (sym same) fits)
    (holds_known p.1 j placed p.0 known (subst (λ x. still_holds j placed x ≡ true) (sym same) holds)))
    ∙ ap (λ x. Some x) same
  where
    entry_same : (a b : EntryValue) → Some a ≡ Some b → a ≡ b
    entry_same a b h = cc

-- what a cache gave, where it tells its entries
pub record GivenFirst (key : CacheKeyValue) (now : ℕ) (told : Option CacheList)
    (given : Option (EntryValue × Acceptance)) : Type 0 where
  pub is : IfSome told (λ list. option_map (λ p. p.0) given ≡ hit key now list)
  pub known : IfSome told (λ list. IfSome given (λ p. p.1 ≢ Other))
  pub listed : IfSome told IsCacheList

-- the set is served by what was kept before, where it may be
record IsServed (t : Terms) (placed : PlacedSet) (given : Option (EntryValue × Acceptance)) : Type 0 where
  it : EntryValue
  is : serving t.judge t.query placed given ≡ Some it

first_is_served : (t : Terms) (before : Option CacheList) (placed : PlacedSet) (key : CacheKeyValue)
    (given : Option (EntryValue × Acceptance)) → key ≡ key_of t.query placed.set
    → GivenFirst key t.now before given → may_be_served t before placed ≡ true → IsServed t placed given
first_is_served t None placed key given same g may = cc
first_is_served t (Some list) placed key given same g may =
    let p = passes (may_serve t.judge t.query placed) (live t.now list.entries) may in
    let here = of_live t.now p.it list.entries p.among in
    let parts = and_parts (key_eq (key_of t.query placed.set) p.it.key) (still_holds t.judge placed p.it) p.is in
    let hits : is_hit key t.now p.it ≡ true =
    ap (λ k. key_eq k p.it.key && nat_lt t.now p.it.expires) same ∙ ap (λ b. b && nat_lt t.now p.it.expires) parts.0
    ∙ here.1 in
    record {
      it = p.it;
      is = served_given t.judge t.query placed given p.it
          (g.is ∙ hit_in key t.now list.entries p.it g.listed.distinct here.0 hits) g.known parts.0 parts.1;
    }

none_made : (made : List MadeValue) (e : EntryValue) → made ≡ [] → origin_of made e ≡ Cache
unfolding origin_of
none_made [] e is = refl
none_made (m ∷ made) e is = cc

entry_first : (t : Terms) (before after : Option CacheList) (k : SeekingValue) (o : Option EntryValue) (s : StateValue)
    → s.steps ≡ [] → s.seeking ≡ None → s.made ≡ []
    → k.so_far.entries ≡ [] → slice_get (placed_sets (told_by k.so_far.message)) 0 ≡ Some k.placed
    → (may_be_served t before k.placed ≡ true → (o ≡ None → ⊥))
    → FirstServed t before (found_by_entry t k o s) after
entry_first t before after k None s no_steps none fresh entries placed never =
    behind t before after (found_by_entry t k None s) k.so_far.message k.so_far.entries
    (record {
      so_far = k.so_far;
      is = ap (λ steps. bottom (set_item t k.so_far k.placed ∷ steps) s.seeking) no_steps
          ∙ bottom_one (set_item t k.so_far k.placed) s.seeking;
      same = refl;
      sets = refl;
    })
    (λ p first may. absurd
    (never (subst (λ x. may_be_served t before x ≡ true) (placed_same p k.placed (sym first ∙ placed)) may) refl))
  where
    placed_same : (a b : PlacedSet) → Some a ≡ Some b → a ≡ b
    placed_same a b h = cc
entry_first t before after k (Some e) s no_steps none fresh entries placed never =
    let set = served_set k.placed e in
    let entry = served_entry (origin_of s.made e) set in
    let grown = with_set k.so_far set entry None in
    behind t before after (found_by_entry t k (Some e) s) k.so_far.message (k.so_far.entries ++ entry ∷ [])
    (next_alone t grown (first_left grown.left) s no_steps none)
    (λ p first may. ap (λ xs. is_first_served (xs ++ entry ∷ [])) entries ∙ ap is_from_cache (none_made s.made e fresh))

-- where the first set waits
at_first : (t : Terms) (before now after : Option CacheList) (s : StateValue) (k : SeekingValue)
    (given : Option (EntryValue × Acceptance)) → s.steps ≡ []
    → k.so_far.query ≡ t.query → k.so_far.entries ≡ []
    → slice_get (placed_sets (told_by k.so_far.message)) 0 ≡ Some k.placed → IsUntouched s before now
    → GivenFirst (key_of k.so_far.query k.placed.set) t.now now given
    → FirstServed t before (found_by_entry t k (serving t.judge k.so_far.query k.placed given) (record s { seeking = None })) after
at_first t before now after s k given no_steps query entries placed untouched g =
    let here = subst (λ o. GivenFirst (key_of k.so_far.query k.placed.set) t.now o given) untouched.told g in
    entry_first t before after k (serving t.judge k.so_far.query k.placed given)
    (record s { seeking = None }) no_steps refl untouched.made entries placed
    (λ may none.
    let served =
    first_is_served t before k.placed (key_of k.so_far.query k.placed.set) given
    (ap (λ q. key_of q k.placed.set) query) here may in
    no_entry served.it (sym none ∙ ap (λ q. serving t.judge q k.placed given) query ∙ served.is))
  where
    no_entry : (e : EntryValue) → None ≡ Some e → ⊥
    no_entry e h = cc

-- behind the first set
entry_later : (t : Terms) (before after : Option CacheList) (k : SeekingValue) (o : Option EntryValue) (s : StateValue)
    (steps : List OpenValue) (so_far : SoFar) → s.steps ≡ steps
    → s.seeking ≡ None → bottom steps (Some k) ≡ Some so_far
    → HeadServed t before (told_by so_far.message) so_far.entries
    → FirstServed t before (found_by_entry t k o s) after
entry_later t before after k None s [] so_far at none is h =
    let item = set_item t k.so_far k.placed in
    Behind so_far
    (ap (λ steps. bottom (item ∷ steps) s.seeking) at ∙ bottom_one item s.seeking ∙ sym (bottom_sought k) ∙ is) h
entry_later t before after k None s (f ∷ outer) so_far at none is h =
    let item = set_item t k.so_far k.placed in
    Behind so_far
    (ap (λ steps. bottom (item ∷ steps) s.seeking) at ∙ bottom_over item f outer s.seeking
    ∙ bottom_any f outer s.seeking (Some k) ∙ is) h
entry_later t before after k (Some e) s [] so_far at none is h =
    let set = served_set k.placed e in
    let entry = served_entry (origin_of s.made e) set in
    let grown = with_set k.so_far set entry None in
    let same = so_far_same k.so_far so_far (sym (bottom_sought k) ∙ is) in
    let here = subst (λ (x : SoFar). HeadServed t before (told_by x.message) x.entries) (sym same) h in
    behind t before after (found_by_entry t k (Some e) s) k.so_far.message (k.so_far.entries ++ entry ∷ [])
    (next_alone t grown (first_left grown.left) s at none)
    (served_more t before (told_by k.so_far.message) k.so_far.entries entry here)
entry_later t before after k (Some e) s (f ∷ outer) so_far at none is h =
    let set = served_set k.placed e in
    let grown = with_set k.so_far set (served_entry (origin_of s.made e) set) None in
    Behind so_far (next_over t grown (first_left grown.left) s f outer (Some k) at ∙ is) h

seek_same : (a b : SeekingValue) → Some a ≡ Some b → a ≡ b
seek_same a b h = cc

no_seek : (o : Option SeekingValue) (k : SeekingValue) → o ≡ None → o ≡ Some k → ⊥
no_seek o k a b = cc

pub over_next : (t : Terms) (so_far : SoFar) (o : Option PlacedSet) (s : StateValue)
    → (next_in t so_far o s).ended ≡ s.ended
over_next t so_far None s = refl
over_next t so_far (Some placed) s = refl

pub over_found : (t : Terms) (k : SeekingValue) (o : Option EntryValue) (s : StateValue)
    → (found_by_entry t k o s).ended ≡ s.ended
over_found t k None s = refl
over_found t k (Some e) s =
    let set = served_set k.placed e in
    let grown = with_set k.so_far set (served_entry (origin_of s.made e) set) None in
    over_next t grown (first_left grown.left) s

found_on : (t : Terms) (before now after : Option CacheList) (s : StateValue) (k : SeekingValue)
    (given : Option (EntryValue × Acceptance)) (o : Option SeekingValue)
    → s.seeking ≡ o → o ≡ Some k → GivenFirst (key_of k.so_far.query k.placed.set) t.now now given
    → FirstServed t before s now
    → FirstServed t before (found_in t given o s) after
found_on t before now after s k given None at is g first = cc
found_on t before now after s k given (Some it) at is g (NotYet no_steps no_set asks untouched) =
    absurd (no_seek s.seeking it no_set at)
found_on t before now after s k given (Some it) at is g (Over reply ended facts) =
    Over reply (over_found t it (serving t.judge it.so_far.query it.placed given) (record s { seeking = None }) ∙ ended) facts
found_on t before now after s k given (Some it) at is g (Behind so_far bottom_is h) =
    entry_later t before after it (serving t.judge it.so_far.query it.placed given)
    (record s { seeking = None }) s.steps so_far refl refl (sym (ap (bottom s.steps) at) ∙ bottom_is) h
found_on t before now after s k given (Some it) at is g
    (AtFirst first_set no_steps seeks query entries placed untouched) =
    let same = seek_same first_set it (sym seeks ∙ at) in
    let here = seek_same it k is in
    subst (λ x. FirstServed t before
    (found_by_entry t x (serving t.judge x.so_far.query x.placed given) (record s { seeking = None })) after) same
    (at_first t before now after s first_set given no_steps query entries placed untouched
    (subst (λ x. GivenFirst (key_of x.so_far.query x.placed.set) t.now now given) (sym (same ∙ here)) g))

module _ (t : Terms) (cached : List EntryValue) (sends : List Sent) where
  pub taken_first : (before now after : Option CacheList) (s u : StateValue) (k : SeekingValue)
      (given : Option (EntryValue × Acceptance)) → Run t cached sends (found t given s) → s.seeking ≡ Some k
      → GivenFirst (key_of k.so_far.query k.placed.set) t.now now given → HasTaken t s given u
      → FirstServed t before s now → FirstServed t before u after
  taken_first before now after s u k given run seeks g h first =
      turns_first t cached sends before after (found t given s) u run h.turns
      (found_on t before now after s k given s.seeking refl seeks g first)

-- ---- what is kept

untouched_kept : (s : StateValue) (before now after : Option CacheList) → IsUntouched s before now
    → after ≡ option_map (after_inserts s.kept) now
    → IsUntouched (kept_all s) before after
untouched_kept s before now after h left = record {
  made = h.made;
  kept = refl;
  told = left ∙ ap (λ kept. option_map (after_inserts kept) now) h.kept ∙ none_inserted now ∙ h.told;
}
  where
    none_inserted : (o : Option CacheList) → option_map (after_inserts []) o ≡ o
    none_inserted None = refl
    none_inserted (Some list) = refl

pub kept_first : (t : Terms) (before now after : Option CacheList) (s : StateValue) → FirstServed t before s now
    → after ≡ option_map (after_inserts s.kept) now
    → FirstServed t before (kept_all s) after
kept_first t before now after s (NotYet no_steps no_set asks h) left =
    NotYet no_steps no_set asks (untouched_kept s before now after h left)
kept_first t before now after s (AtFirst k no_steps seeks query entries placed h) left =
    AtFirst k no_steps seeks query entries placed (untouched_kept s before now after h left)
kept_first t before now after s (Behind so_far is h) left = Behind so_far is h
kept_first t before now after s (Over reply ended facts) left = Over reply ended facts

-- ---- at the end

module _ (t : Terms) (cached : List EntryValue) where
  end_by : (pending : Option Ask) (seeking : Option SeekingValue) (steps : List OpenValue) (closed : List AskedValue)
      (n : ℕ)
      (sends : List Sent) (made : List MadeValue) (ended : Option Reply) (reply : Reply)
      → Stand t cached pending seeking steps closed n sends made ended → ended ≡ Some reply
      → (pending ≡ None) × ((seeking ≡ None) × (steps ≡ []))
  end_by _ _ _ _ _ _ _ _ reply (Waits a steps closed n sends made beneath few awaits each) is = cc
  end_by _ _ _ _ _ _ _ _ reply
      (Seeks k outer below closed n m before after all first made beneath on_top all_is each) is = cc
  end_by _ _ _ _ _ _ _ _ reply (Moves f outer closed n sends made beneath each) is = cc
  end_by _ _ _ _ _ _ _ _ reply (Done closed n sends made answer comes) is = (refl, (refl, refl))

-- the first set of the answer's trail is served where it may be
pub end_first : (t : Terms) (cached : List EntryValue) (sends : List Sent) (before now : Option CacheList)
    (s : StateValue) (reply : Reply) → Run t cached sends s
    → s.ended ≡ Some reply → FirstServed t before s now → OfAnswer reply (λ a ending. TopServed t before a.trail)
end_first t cached sends before now s reply run ended first =
    by (end_by t cached s.pending s.seeking s.steps s.closed s.sends sends s.made s.ended reply
    (run_stands t cached sends s run) ended) first
  where
    reply_same : (a b : Reply) → Some a ≡ Some b → a ≡ b
    reply_same a b h = cc

    no_ask : (o : Option Ask) (a : Ask) → o ≡ None → o ≡ Some a → ⊥
    no_ask o a none some = cc

    by : (s.pending ≡ None) × ((s.seeking ≡ None) × (s.steps ≡ [])) → FirstServed t before s now
        → OfAnswer reply (λ a ending. TopServed t before a.trail)
    by rest (NotYet no_steps no_set asks h) = absurd (no_ask s.pending (judged_ask t.query) rest.0 asks)
    by rest (AtFirst k no_steps seeks query entries placed h) = absurd (no_seek s.seeking k rest.1.0 seeks)
    by rest (Behind so_far is h) =
        absurd (bottom_none so_far
        (sym (ap (λ steps. bottom steps None) rest.1.1) ∙ sym (ap (bottom s.steps) rest.1.0) ∙ is))
    by rest (Over answer is facts) =
        subst (λ x. OfAnswer x (λ a ending. TopServed t before a.trail))
        (reply_same answer reply (sym is ∙ ended)) facts
