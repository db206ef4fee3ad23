-- What a table has for keys, made key by key.
use Rattle.std.proofs.Common.{◌≡◌, ℕ, ◌+◌, ◌<◌, ◌≤◌, Bool, true, false, cond, not, ◌&&◌, ◌||◌, List, [], ◌∷◌, length, take, Option, None, Some, is_some, unwrap_or, refl, sym, ap, ◌∙◌}
use Rattle.std.specs.Prelude.{Vec, slice_index_or, if◌then◌else◌}
use Rattle.std.specs.BTreeMap.{BTreeMap, UpdatesBy}
use Rattle.std.specs.Borrow.{Bor}
use Rattle.std.specs.Cmp.Lexicographic.{slice_cmp, nat_list_eq_equiv}
use Rattle.std.specs.List.{filter, list_any}
use Rattle.std.specs.Option.{option_map_or}
use Rattle.std.specs.Ordering.{nat_cmp}
use Rattle.std.proofs.lemmas.Map.Views.{any-filter_same}
use Rattle.std.proofs.lemmas.Slice.Eq.{bytes_eq-Decides}
use Rattle.dns_model.specs.Keys.{bytes_eq}
use Rattle.dns_model.specs.Views.{DnskeyValue}
use Rattle.dns_anchor_roll.specs.FollowedKeys.{is_given, key_bytes, key_in}
use Rattle.dns_anchor_roll.specs.Tables.{among, begun, entry_at, gone_on, has_entry, is_done_at, is_through, IsSameTable, next_stretch, settled, standing_in, TakesFound}
use Rattle.dns_anchor_roll.specs.declared.found.Found.{Found}
use Rattle.dns_anchor_roll.specs.declared.key_table.KeyTable.{KeyTable}
use Rattle.dns_anchor_roll.specs.declared.standing.Standing.{Standing}
use Rattle.dns_anchor_roll.specs.declared.standing.Standing.TheVariants.{Unknown, Trusted}
use Rattle.dns_anchor_roll.specs.declared.standing.Stretch.{Stretch}
use Rattle.dns_anchor_roll.proofs.Keys.{by_items, entry_updated}
use Rattle.dns_anchor_roll.proofs.Records.{any_all, any_more}

-- ---- the keys that are given

abbrev pub given_standing : Bool → Standing
given_standing b = if b then Trusted else Unknown

abbrev is_it : List ℕ → List ℕ → Bool
is_it q rdata = option_map_or (λ text. bytes_eq q (key_bytes text)) (key_in rdata) false

insert_step : (b : Bool) (o : Option Standing) → unwrap_or (cond b (Some Trusted) o) Unknown ≡ cond b Trusted (unwrap_or o Unknown)
insert_step true o = refl
insert_step false o = refl

or_trusted : (before now : Bool) → cond now Trusted (given_standing before) ≡ given_standing (before || now)
or_trusted true true = refl
or_trusted true false = refl
or_trusted false true = refl
or_trusted false false = refl

or_false : (b : Bool) → (b || false) ≡ b
or_false true = refl
or_false false = refl

-- one key more that is trusted
pub given_one : {Z : Type 0} (rdata : List ℕ) (text : DnskeyValue) (key : List ℕ) (old new : BTreeMap (Vec ℕ Z) Standing)
    → key_in rdata ≡ Some text → key ≡ key_bytes text
    → UpdatesBy by_items (λ k. slice_cmp nat_cmp key k.items) old new (Some Trusted)
    → (q : List ℕ) → standing_in new q ≡ (if is_given (rdata ∷ []) q then Trusted else standing_in old q)
given_one rdata text key old new reads same updates q =
    ap (λ o. unwrap_or o Unknown) (entry_updated key old new (Some Trusted) updates q)
    ∙ insert_step (bytes_eq key q) (entry_at old q)
    ∙ ap (λ b. cond b Trusted (standing_in old q))
    (nat_list_eq_equiv.symm key q ∙ ap (bytes_eq q) same ∙ sym (ap (λ o. option_map_or (λ t. bytes_eq q (key_bytes t)) o false) reads)
    ∙ sym (or_false (is_it q rdata)))

-- an rdata that doesn't count
pub given_none : (rdata : List ℕ) (s : Standing) → key_in rdata ≡ None → (q : List ℕ) → s ≡ (if is_given (rdata ∷ []) q then Trusted else s)
given_none rdata s reads q =
    sym (ap (λ o. cond (option_map_or (λ t. bytes_eq q (key_bytes t)) o false || false) Trusted s) reads)

pub given_more : (rdatas : List (List ℕ)) (i : ℕ) (rdata : List ℕ) (old new : Standing) (q : List ℕ) → i < length rdatas
    → rdata ≡ slice_index_or rdatas i rdata
    → old ≡ given_standing (is_given (take i rdatas) q) → new ≡ (if is_given (rdata ∷ []) q then Trusted else old)
    → new ≡ given_standing (is_given (take (i + 1) rdatas) q)
given_more rdatas i rdata old new q h at before now =
    now
    ∙ ap (cond (is_given (rdata ∷ []) q) Trusted) before
    ∙ ap (λ b. cond b Trusted (given_standing (is_given (take i rdatas) q))) (or_false (is_it q rdata))
    ∙ or_trusted (is_given (take i rdatas) q) (is_it q rdata)
    ∙ sym (ap given_standing (any_more (is_it q) rdatas i rdata h at))

pub given_all : (rdatas : List (List ℕ)) (i : ℕ) (known : Standing) (q : List ℕ) → length rdatas ≤ i
    → known ≡ given_standing (is_given (take i rdatas) q) → known ≡ given_standing (is_given rdatas q)
given_all rdatas i known q h before = before ∙ ap given_standing (any_all (is_it q) rdatas i h)

-- ---- the stretches of the keys that a sighting shows

shown_step : (before now : Bool) (s : Option Stretch) (moment ttl : ℕ)
    → cond now (Some (unwrap_or s (begun moment ttl))) (gone_on before s moment ttl) ≡ gone_on (before || now) s moment ttl
shown_step true true s moment ttl = refl
shown_step true false s moment ttl = refl
shown_step false true s moment ttl = refl
shown_step false false s moment ttl = refl

value_step : {Z : Type 0} (key q : List ℕ) (old : BTreeMap (Vec ℕ Z) Stretch) (stretch : Stretch) (moment ttl : ℕ) (rest : Option Stretch) (b : Bool)
    → bytes_eq key q ≡ b → Some stretch ≡ gone_on true (entry_at old key) moment ttl
    → cond b (Some stretch) rest ≡ cond b (Some (unwrap_or (entry_at old q) (begun moment ttl))) rest
value_step key q old stretch moment ttl rest true e is =
    is ∙ ap (λ k. Some (unwrap_or (entry_at old k) (begun moment ttl))) ((bytes_eq-Decides key q).0 e)
value_step key q old stretch moment ttl rest false e is = refl

pub stretch_more : {Z : Type 0} (keys : List (Bor (List ℕ))) (i : ℕ) (key : Bor (List ℕ)) (own : List ℕ) (old before after : BTreeMap (Vec ℕ Z) Stretch)
    (stretch : Stretch) (moment ttl : ℕ) → i < length keys → key ≡ slice_index_or keys i key → own ≡ key.now
    → Some stretch ≡ gone_on true (entry_at old key.now) moment ttl
    → ((q : List ℕ) → entry_at before q ≡ gone_on (among q (take i keys)) (entry_at old q) moment ttl)
    → UpdatesBy by_items (λ k. slice_cmp nat_cmp own k.items) before after (Some stretch)
    → (q : List ℕ) → entry_at after q ≡ gone_on (among q (take (i + 1) keys)) (entry_at old q) moment ttl
stretch_more keys i key own old before after stretch moment ttl h at same is so_far updates q =
    entry_updated own before after (Some stretch) updates q
    ∙ ap (λ k. cond (bytes_eq k q) (Some stretch) (entry_at before q)) same
    ∙ value_step key.now q old stretch moment ttl (entry_at before q) (bytes_eq key.now q) refl is
    ∙ ap (cond (bytes_eq key.now q) (Some (unwrap_or (entry_at old q) (begun moment ttl)))) (so_far q)
    ∙ shown_step (among q (take i keys)) (bytes_eq key.now q) (entry_at old q) moment ttl
    ∙ ap (λ b. gone_on (among q (take i keys) || b) (entry_at old q) moment ttl) (nat_list_eq_equiv.symm key.now q)
    ∙ sym (ap (λ b. gone_on b (entry_at old q) moment ttl) (any_more (λ (k : Bor (List ℕ)). bytes_eq q k.now) keys i key h at))

-- ---- the keys that came through

pub through_of : {Z : Type 0} (shown : BTreeMap (Vec ℕ Z) Stretch) (moment : ℕ) (keys through : List (Bor (List ℕ)))
    → through ≡ filter (λ (k : Bor (List ℕ)). is_done_at (entry_at shown k.now) moment) keys
    → (q : List ℕ) → among q through ≡ (is_done_at (entry_at shown q) moment && among q keys)
through_of shown moment keys through is q =
    ap (among q) is
    ∙ any-filter_same (λ (k : Bor (List ℕ)). bytes_eq q k.now) (λ (k : Bor (List ℕ)). is_done_at (entry_at shown k.now) moment)
    (is_done_at (entry_at shown q) moment)
    (λ k h. ap (λ key. is_done_at (entry_at shown key) moment) (sym ((bytes_eq-Decides q k.now).0 h))) keys

-- ---- a table after a sighting

and_true : (b : Bool) → (b && true) ≡ b
and_true true = refl
and_true false = refl

none_shown : (shown : Bool) (s : Option Stretch) (moment ttl : ℕ) → (is_done_at (gone_on shown s moment ttl) moment && shown) ≡ is_done_at (gone_on shown s moment ttl) moment
none_shown true None moment ttl = and_true (is_done_at (gone_on true None moment ttl) moment)
none_shown true (Some s) moment ttl = and_true (is_done_at (gone_on true (Some s) moment ttl) moment)
none_shown false s moment ttl = refl

pub accepted_takes : (found : Found) (moment ttl : ℕ) (old new : KeyTable) (through : List (Bor (List ℕ))) → found.ttl ≡ Some ttl
    → ((q : List ℕ) → entry_at new.shown q ≡ gone_on (among q found.shown.items) (entry_at old.shown q) moment ttl)
    → ((q : List ℕ) → among q through ≡ (is_done_at (entry_at new.shown q) moment && among q found.shown.items))
    → ((q : List ℕ) → standing_in new.known q ≡ settled (among q found.revoked.items) moment (among q through) (standing_in old.known q))
    → new.accepted ≡ true → new.last ≡ Some moment → TakesFound found moment old new
accepted_takes found moment ttl old new through is shown came known accepted last = record {
  shown = λ q. shown q ∙ sym (ap (λ o. next_stretch (among q found.shown.items) moment o (entry_at old.shown q)) is);
  known = λ q.
      known q
      ∙ ap (λ b. settled (among q found.revoked.items) moment b (standing_in old.known q))
      (came q
      ∙ ap (λ s. is_done_at s moment && among q found.shown.items) (shown q)
      ∙ none_shown (among q found.shown.items) (entry_at old.shown q) moment ttl
      ∙ sym (ap (λ s. is_done_at s moment) (shown q))
      ∙ sym (ap (λ o. is_through o (entry_at new.shown q) moment) is));
  accepted = accepted ∙ sym (ap (λ o. is_some o || old.accepted) is);
  last = last;
}

pub ignored_takes : (found : Found) (moment : ℕ) (old new : KeyTable) (through : List (Bor (List ℕ))) → found.ttl ≡ None
    → ((q : List ℕ) → entry_at new.shown q ≡ entry_at old.shown q)
    → ((q : List ℕ) → among q through ≡ false)
    → ((q : List ℕ) → standing_in new.known q ≡ settled (among q found.revoked.items) moment (among q through) (standing_in old.known q))
    → new.accepted ≡ old.accepted → new.last ≡ Some moment → TakesFound found moment old new
ignored_takes found moment old new through is shown none known accepted last = record {
  shown = λ q. shown q ∙ sym (ap (λ o. next_stretch (among q found.shown.items) moment o (entry_at old.shown q)) is);
  known = λ q.
      known q
      ∙ ap (λ b. settled (among q found.revoked.items) moment b (standing_in old.known q))
      (none q ∙ sym (ap (λ o. is_through o (entry_at new.shown q) moment) is));
  accepted = accepted ∙ sym (ap (λ o. is_some o || old.accepted) is);
  last = last;
}
