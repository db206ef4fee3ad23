-- A roll after sightings, and the moments of these.
use Rattle.std.proofs.Common.{◌≡◌, ℕ, ◌+◌, ◌<◌, ◌≤◌, Bool, true, false, cond, List, [], ◌∷◌, ◌++◌, length, drop, take, reverse, Option, None, Some, is_some, slice_get, refl, sym, ap, subst, ◌∙◌}
use Rattle.std.specs.Prelude.{slice_index_or, if◌then◌else◌}
use Rattle.std.specs.List.{All, count_by}
use Rattle.std.specs.Option.{option_map}
use Rattle.std.proofs.lemmas.List.{drop_all, drop_more, reverse-append, take_all, take_more}
use Rattle.dns_model.specs.Keys.{AnchorValue, VerifierAnswers, holds_anchor, is_anchor}
use Rattle.dns_model.specs.Names.{Labels}
use Rattle.dns_anchor_roll.specs.After.{AreAnchors, IsAfter, IsAsBefore, IsCause, IsFall, fall_from, first_fall, is_before, is_earlier, last_moment, seen}
use Rattle.dns_anchor_roll.specs.Findings.{FindsFact}
use Rattle.dns_anchor_roll.specs.Sightings.{SightingValue}
use Rattle.dns_anchor_roll.specs.Tables.{IsSameTable, TakesFound, is_trusted, standing_in}
use Rattle.dns_anchor_roll.specs.Trust.{Start, facts, is_accepted, trusted}
use Rattle.dns_anchor_roll.specs.declared.anchor_roll.AnchorRoll.{AnchorRoll}
use Rattle.dns_anchor_roll.specs.declared.found.Found.{Found}
use Rattle.dns_anchor_roll.specs.declared.states.RollError.{RollError}
use Rattle.dns_anchor_roll.specs.declared.states.RollError.TheVariants.{Earlier, NoMemory}
use Rattle.dns_anchor_roll.proofs.Trusting.{found_ttl, last_of, taken_after, trusted_in}

-- by whom a roll judges is by whom it was made
judged : {V : Type 0} (answers : V → VerifierAnswers) (start : Start) (list : List SightingValue) (old : AnchorRoll V) (s : SightingValue)
    (found : Found) → IsAfter answers start list old
    → FindsFact (answers old.verifier) old.zone (λ key. is_trusted (standing_in old.table.known key)) s found
    → FindsFact start.answers start.zone (λ key. is_trusted (standing_in old.table.known key)) s found
judged answers start list old s found is finds =
    subst (λ z. FindsFact start.answers z (λ key. is_trusted (standing_in old.table.known key)) s found) is.zone
    (subst (λ a. FindsFact a old.zone (λ key. is_trusted (standing_in old.table.known key)) s found) is.verifier finds)

pub taken : {V : Type 0} (answers : V → VerifierAnswers) (start : Start) (list : List SightingValue) (old new : AnchorRoll V)
    (s : SightingValue) (found : Found) → IsAfter answers start list old
    → FindsFact (answers old.verifier) old.zone (λ key. is_trusted (standing_in old.table.known key)) s found
    → TakesFound found s.moment old.table new.table → new.verifier ≡ old.verifier → new.zone ≡ old.zone
    → IsAfter answers start (s ∷ list) new
taken answers start list old new s found is finds takes verifier zone = record {
  verifier = ap answers verifier ∙ is.verifier;
  zone = zone ∙ is.zone;
  table = taken_after start list s found old.table new.table is.table (judged answers start list old s found is finds) takes;
}

pub taken_seen : {V : Type 0} (answers : V → VerifierAnswers) (start : Start) (list : List SightingValue) (old : AnchorRoll V)
    (s : SightingValue) (found : Found) → IsAfter answers start list old
    → FindsFact (answers old.verifier) old.zone (λ key. is_trusted (standing_in old.table.known key)) s found
    → seen (is_some found.ttl) ≡ seen (is_accepted start list s)
taken_seen answers start list old s found is finds =
    ap seen (found_ttl start list s found old.table is.table (judged answers start list old s found is finds))

pub last_in : {V : Type 0} (answers : V → VerifierAnswers) (start : Start) (list : List SightingValue) (roll : AnchorRoll V)
    → IsAfter answers start list roll → roll.table.last ≡ last_moment list
last_in answers start list roll is = is.table.last ∙ last_of start list

-- its trusted keys are those of the facts
pub anchors_after : {V : Type 0} (answers : V → VerifierAnswers) (start : Start) (list : List SightingValue) (roll : AnchorRoll V)
    (anchors : List AnchorValue) → IsAfter answers start list roll
    → AreAnchors roll.zone (λ key. is_trusted (standing_in roll.table.known key)) anchors
    → AreAnchors start.zone (trusted start list) anchors
anchors_after answers start list roll anchors is are = record {
  owners = subst (λ z. All (λ a. a.owner ≡ z) anchors) is.zone are.owners;
  keys = λ a k. ap (λ z. holds_anchor anchors z a k) (sym is.zone) ∙ are.keys a k
      ∙ trusted_in start.given (facts start list) roll.table is.table (a ∷ k);
  once = λ a k. subst (λ z. count_by (is_anchor z a k) anchors ≤ 1) is.zone (are.once a k);
}

-- ---- moments

later_step : (b : Bool) (o : Option ℕ) (last : ℕ) → (if b then o else None) ≡ Some last → (o ≡ Some last) × (b ≡ true)
later_step true o last h = (h, refl)
later_step false o last h = cc

pub is_cause : (o : Option ℕ) (list : List SightingValue) (moment last : ℕ) → o ≡ last_moment list
    → (if is_before o moment then o else None) ≡ Some last → IsCause list moment (Earlier last)
is_cause o list moment last is h =
    let parts = later_step (is_before o moment) o last h in
    (sym is ∙ parts.0, ap (λ p. is_before p moment) (sym is) ∙ parts.1)

not_step : (b : Bool) (last : ℕ) → (if b then Some last else None) ≡ None → b ≡ false
not_step true last h = cc
not_step false last h = refl

not_before : (o : Option ℕ) (moment : ℕ) → (if is_before o moment then o else None) ≡ None → is_before o moment ≡ false
not_before None moment h = refl
not_before (Some last) moment h = not_step (is_before (Some last) moment) last h

pub is_no_cause : (o : Option ℕ) (list : List SightingValue) (moment : ℕ) → o ≡ last_moment list
    → (if is_before o moment then o else None) ≡ None → is_earlier list moment ≡ false
is_no_cause o list moment is h = ap (λ p. is_before p moment) (sym is) ∙ not_before o moment h

-- ---- sightings in the order of time

pub newest_first : (all : List SightingValue) (i : ℕ) (s : SightingValue) → i < length all → s ≡ slice_index_or all i s
    → reverse (take (i + 1) all) ≡ s ∷ reverse (take i all)
newest_first all i s h at =
    ap reverse (take_more all i s h)
    ∙ ap (λ x. reverse (take i all ++ x ∷ [])) (sym at)
    ∙ reverse-append (take i all) (s ∷ [])

rest_is : (all : List SightingValue) (i : ℕ) (s : SightingValue) → i < length all → s ≡ slice_index_or all i s
    → drop i all ≡ s ∷ drop (i + 1) all
rest_is all i s h at = drop_more all i s h ∙ ap (λ x. x ∷ drop (i + 1) all) (sym at)

pub falls_here : (all list : List SightingValue) (i : ℕ) (s : SightingValue) (e : RollError) → list ≡ reverse (take i all)
    → i < length all → s ≡ slice_index_or all i s
    → first_fall all ≡ fall_from (last_moment list) (drop i all) → IsCause list s.moment e → IsFall (first_fall all) e
unfolding fall_from
falls_here all list i s NoMemory so h at later cause = tt
falls_here all list i s (Earlier last) so h at later cause =
    later
    ∙ ap (fall_from (last_moment list)) (rest_is all i s h at)
    ∙ ap (λ b. cond b (last_moment list) (fall_from (Some s.moment) (drop (i + 1) all))) cause.1
    ∙ cause.0

pub falls_later : (all : List SightingValue) (i : ℕ) (s : SightingValue) → i < length all → s ≡ slice_index_or all i s
    → first_fall all ≡ fall_from (last_moment (reverse (take i all))) (drop i all)
    → is_earlier (reverse (take i all)) s.moment ≡ false
    → first_fall all ≡ fall_from (last_moment (reverse (take (i + 1) all))) (drop (i + 1) all)
unfolding fall_from
falls_later all i s h at later rises =
    later
    ∙ ap (fall_from (last_moment (reverse (take i all)))) (rest_is all i s h at)
    ∙ ap (λ b. cond b (last_moment (reverse (take i all))) (fall_from (Some s.moment) (drop (i + 1) all))) rises
    ∙ sym (ap (λ l. fall_from (last_moment l) (drop (i + 1) all)) (newest_first all i s h at))

pub falls_never : (all : List SightingValue) (i : ℕ) → length all ≤ i
    → first_fall all ≡ fall_from (last_moment (reverse (take i all))) (drop i all) → first_fall all ≡ None
unfolding fall_from
falls_never all i h later = later ∙ ap (fall_from (last_moment (reverse (take i all)))) (drop_all i all h)
