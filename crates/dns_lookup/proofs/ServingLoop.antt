-- The loop by which a validation is served from a cache.
use Rattle.std.proofs.Common.{ℕ, ◌≡◌, ◌⊎◌, ◌<◌, List, [], Option, None, Some, Result, Ok, Err, refl, sym, ap, subst, ◌∙◌, inl, inr}
use Rattle.std.specs.Option.{option_map, IsSome}
use Rattle.dns_rules.specs.CacheKeys.{CacheKeyValue}
use Rattle.dns_rules.specs.CacheEntries.{EntryValue}
use Rattle.dns_cache.specs.Caches.{GivenWith, LeftByGet, hits_after}
use Rattle.dns_cache.specs.declared.acceptance.Acceptance.{Acceptance}
use Rattle.dns_validation.specs.Machine.{Terms, StateValue, none_open}
use Rattle.dns_validation.specs.Runs.{Sent, IsOut, HasTaken}
use Rattle.dns_validation.specs.Validations.{asking_at, wanted_by, wanted_in}
use Rattle.dns_validation.specs.declared.validation.Asking.{Asking}
use Rattle.dns_validation.specs.declared.validation.Wanted.{Wanted}
use Rattle.dns_validation.specs.declared.validation.Wanted.TheVariants.{Reply, Entry}
use Rattle.dns_lookup.specs.Driving.{CacheState, Got, Handed, NotHanded, LeftByFront, after_inserts, kept_all, IsOn, IsLost, IsBehind, ServesOn}
use Rattle.dns_lookup.proofs.AddLemmas.{kept_left}
use Rattle.dns_lookup.proofs.ServeLemmas.{WantsEntry, behind_kept, behind_taken, stopped_of, failed_kept, failed_got, rests_failed, wants_none, wants_reply, wants_entry, rests_kept, rests_none, rests_never, some_is}
use Rattle.dns_lookup.proofs.WorkLemmas.{sets_left, taken_left, out_left}

-- so far
pub record Serving (t u : Terms) (first s : StateValue) (old now : CacheState) : Type 0 where
  pub terms : u ≡ t
  pub goes : (before : CacheState) (sends : List Sent) → IsOn t before sends first old → IsBehind t before sends s now
  pub rests : (before : CacheState) (cached : List EntryValue) (sends : List Sent)
      → IsLost t before cached sends first old → IsLost t before cached sends s now
  pub idle : first.pending ≡ None → first.seeking ≡ None → (s.pending ≡ None) × (s.seeking ≡ None)

pub serving_begun : (t : Terms) (s : StateValue) (now : CacheState) → Serving t t s s now now
serving_begun t s now = record {
  terms = refl;
  goes = λ before sends on. inl on;
  rests = λ before cached sends lost. lost;
  idle = λ pending seeking. (pending, seeking);
}

-- what was given out is kept
pub serving_kept : (t u v : Terms) (first s m : StateValue) (old now after : CacheState) → Serving t u first s old now
    → v ≡ u → m ≡ kept_all s
    → after.told ≡ option_map (after_inserts s.kept) now.told → after.hits ≡ now.hits → Serving t v first m old after
serving_kept t u v first s m old now after at same is left still = record {
  terms = same ∙ at.terms;
  goes = λ before sends on. behind_kept t before sends s m now after (at.goes before sends on) is left still;
  rests = λ before cached sends lost. rests_kept t before cached sends s m now after
      (at.rests before cached sends lost) is left;
  idle = λ pending seeking.
      let none = at.idle pending seeking in
      (ap (λ (x : StateValue). x.pending) is ∙ none.0, ap (λ (x : StateValue). x.seeking) is ∙ none.1);
}

pub kept_empty : (s m : StateValue) → m ≡ kept_all s → m.kept ≡ []
kept_empty s m is = ap (λ (x : StateValue). x.kept) is

module _ (t u : Terms) (first s m : StateValue) where
  -- memory ran out
  pub failed_keeping : {E : Type 0} (old now after : CacheState) (e : E) → Serving t u first s old now
      → LeftByFront s.kept now.told after.told → ServesOn t first old (Err e) m after
  failed_keeping old now after e at f = record {
    goes = λ before sends on. failed_kept t before sends s now after (at.goes before sends on) f;
    rests = λ before cached sends lost. rests_failed t before cached sends s now after
        (at.rests before cached sends lost) f;
  }

module _ (t u : Terms) (first s m : StateValue) where
  pub failed_getting : {E : Type 0} (old now after : CacheState) (key : CacheKeyValue) (moment : ℕ) (e : E)
      → Serving t u first s old now
      → LeftByGet key moment now.told after.told (let r : Result (Option EntryValue) E = Err e in r)
      → ServesOn t first old (Err e) m after
  failed_getting old now after key moment e at left = record {
    goes = λ before sends on.
        failed_got t before sends now after key moment e left
        (stopped_of t before sends s now (at.goes before sends on));
    rests = λ before cached sends lost.
        kept_left t cached sends key moment before.told now.told after.told (Err e) left
        ((at.rests before cached sends lost).left);
  }

-- what the next wish is
pub record Wishes (t : Terms) (s m : StateValue) (o : Option Wanted) : Type 0 where
  pub asks : IsOut m ⊎ (o ≡ wanted_in t s)
  pub same : IsOut m ⊎ (m ≡ s)
  pub out : IsOut m → o ≡ None

pub wished : (t : Terms) (s m : StateValue) (o x : Option Wanted) → o ≡ x → IsOut m ⊎ (o ≡ wanted_in t s) → IsOut m
    ⊎ (m ≡ s) → (IsOut m → o ≡ None)
    → Wishes t s m x
wished t s m o x is asks same out = record {
  asks = subst (λ y. IsOut m ⊎ (y ≡ wanted_in t s)) is asks;
  same = same;
  out = λ gone. sym is ∙ out gone;
}

pub serves_none : {E : Type 0} (t u : Terms) (first s m : StateValue) (old now : CacheState)
    → Serving t u first s old now → s.kept ≡ []
    → Wishes u s m None → ServesOn {E = E} t first old (Ok None) m now
serves_none {E = E} t u first s m old now at rests w = record {
  goes = λ before sends on. wants_none E t u before sends s m now
      (at.goes before sends on) rests at.terms w.asks w.same;
  rests = λ before cached sends lost. rests_none E t before cached sends s m now
      (at.rests before cached sends lost) w.same;
}

pub serves_reply : {E : Type 0} (t u : Terms) (first s m : StateValue) (old now : CacheState) (asking : Asking)
    → Serving t u first s old now
    → s.kept ≡ [] → Wishes u s m (Some (Reply asking)) → ServesOn {E = E} t first old (Ok (Some asking)) m now
serves_reply {E = E} t u first s m old now asking at rests w = record {
  goes = λ before sends on. wants_reply E t u before sends s m now asking
      (at.goes before sends on) rests at.terms w.asks w.same w.out;
  rests = λ before cached sends lost. absurd
      (rests_never t u s m (Reply asking) ((at.rests before cached sends lost).out) at.terms w.asks w.out);
}

none_wanted : (t : Terms) (s : StateValue) (w : Wanted) → s.pending ≡ None → s.seeking ≡ None → Some w ≡ wanted_in t s
    → ⊥
none_wanted t s w pending seeking is =
    never w (is ∙ ap (wanted_by t s) seeking
    ∙ ap (λ o. option_map Reply (option_map (asking_at t.request t.options (none_open s.steps)) o)) pending)
  where
    never : (x : Wanted) → Some x ≡ None → ⊥
    never x h = cc

never_some : (w : Wanted) → Some w ≡ None → ⊥
never_some w h = cc

-- it doesn't ask where it wanted nothing
pub idle_never : (t u : Terms) (first s m : StateValue) (old now : CacheState) (w : Wanted)
    → Serving t u first s old now → Wishes u s m (Some w)
    → first.pending ≡ None → first.seeking ≡ None → ⊥
idle_never t u first s m old now w at wishes pending seeking =
    let none = at.idle pending seeking in
    elim wishes.asks [
      | inl out ↦ never_some w (wishes.out out)
      | inr is ↦ none_wanted u s w none.0 none.1 is
    ]

wanted_entry : (t u : Terms) (first s m : StateValue) (old now : CacheState) (key : CacheKeyValue)
    → Serving t u first s old now → Wishes u s m (Some (Entry key))
    → WantsEntry s m key
wanted_entry t u first s m old now key at w = wants_entry u s m key w.asks w.same w.out

-- what the call of a cache gave, at the moment of the lookup
pub got_at : (key : CacheKeyValue) (now moment : ℕ) (old new : CacheState) (given : Option (EntryValue × Acceptance))
    → now ≡ moment → Got key moment old new given
    → Got key now old new given
got_at key now moment old new given is got = subst (λ n. Got key n old new given) (sym is) got

-- whatever the type of its errors
pub hits_any : (E F : Type 0) (hits : ℕ) (o : Option EntryValue)
    → hits_after hits (let r : Result (Option EntryValue) E = Ok o in r) ≡ hits_after hits
    (let r : Result (Option EntryValue) F = Ok o in r)
hits_any E F hits None = refl
hits_any E F hits (Some e) = refl

module _ (t u v w : Terms) (first s m n : StateValue) where
  -- it is told what was kept
  pub serving_told : (old now after : CacheState) (key : CacheKeyValue) (given : Option (EntryValue × Acceptance))
      → Serving t u first s old now → s.kept ≡ [] → Wishes u s m (Some (Entry key)) → v ≡ u → w ≡ v
      → Got key t.now now after given → (IsSome m.seeking → IsOut n ⊎ HasTaken v m given n)
      → Serving t w first n old after
  serving_told old now after key given at rests wishes next found got taken =
      let wants = wanted_entry t u first s m old now key at wishes in
      record {
        terms = found ∙ next ∙ at.terms;
        goes = λ before sends on. behind_taken t v before sends s m n now after key given
            (at.goes before sends on) rests wants (next ∙ at.terms) got taken;
        rests = λ before cached sends lost. absurd
            (rests_never t u s m (Entry key) ((at.rests before cached sends lost).out) at.terms wishes.asks wishes.out);
        idle = λ pending seeking. absurd (idle_never t u first s m old now (Entry key) at wishes pending seeking);
      }

module _ (t u v : Terms) (first s m n : StateValue) where
  -- and fewer sets are left
  pub serving_fewer : (old now : CacheState) (key : CacheKeyValue) (given : Option (EntryValue × Acceptance))
      → Serving t u first s old now → Wishes u s m (Some (Entry key))
      → (IsSome m.seeking → IsOut n ⊎ HasTaken v m given n) → sets_left n < sets_left s
  serving_fewer old now key given at wishes taken =
      let wants = wanted_entry t u first s m old now key at wishes in
      subst (λ x. sets_left n < sets_left x) wants.same
      (by wants (taken (some_is m.seeking wants.seeks.it wants.seeks.seeks)))
    where
      by : WantsEntry s m key → IsOut n ⊎ HasTaken v m given n → sets_left n < sets_left m
      by wants (inl out) = out_left m n wants.seeks.it out wants.seeks.seeks
      by wants (inr h) = taken_left v m n given wants.seeks.it wants.seeks.seeks h

-- ---- what the cache gives is handed on

module _ (t u v w : Terms) (first s m n : StateValue) where
  pub serving_handed : (may_give : GivenWith → Type 0) (old now after : CacheState) (key : CacheKeyValue) (moment : ℕ)
      → t.now ≡ moment → Serving t u first s old now → s.kept ≡ [] → Wishes u s m (Some (Entry key)) → v ≡ u → w ≡ v
      → Handed may_give v key moment now after m n → Serving t w first n old after
  serving_handed may_give old now after key moment is at rests wishes next found h =
      serving_told t u v w first s m n old now after key h.given at rests wishes next found
      (got_at key t.now moment now after h.given is h.got) h.taken

module _ (t u v : Terms) (first s m n : StateValue) where
  pub handed_fewer : (may_give : GivenWith → Type 0) (old now after : CacheState) (key : CacheKeyValue) (moment : ℕ)
      → Serving t u first s old now → Wishes u s m (Some (Entry key)) → Handed may_give v key moment now after m n
      → sets_left n < sets_left s
  handed_fewer may_give old now after key moment at wishes h =
      serving_fewer t u v first s m n old now key h.given at wishes h.taken

-- memory ran out before
module _ (t u : Terms) (first s m n : StateValue) where
  pub failed_handing : {E : Type 0} (old now after : CacheState) (key : CacheKeyValue) (moment : ℕ) (e : E)
      → Serving t u first s old now → NotHanded key moment now after m n → ServesOn t first old (Err e) n after
  failed_handing old now after key moment e at h = failed_getting t u first s n old now after key moment e at h.left
