-- A key set judged by the DS set of its owner, with its chain.
use Rattle.std.proofs.Common.{◌≡◌, ℕ, Bool, true, false, ◌||◌, cond, List, [], ◌∷◌, Option, None, Some, refl, sym, ap, ◌∙◌}
use Rattle.std.specs.Prelude.{if◌then◌else◌}
use Rattle.std.specs.Option.{option_map, option_map_or}
use Rattle.std.specs.List.{filter, find, list_any}
use Rattle.dns_model.specs.declared.proof.Proof.{Proof}
use Rattle.dns_model.specs.declared.proof.Proof.TheVariants as proof
use Rattle.dns_model.specs.Names.{Labels}
use Rattle.dns_model.specs.Records.{Rr, RrSet}
use Rattle.dns_model.specs.Keys.{VerifierAnswers}
use Rattle.dns_model.specs.Chains.{Judge, LinkValue}
use Rattle.dns_model.specs.SoundAnswers.{PlacedSet}
use Rattle.dns_model.proofs.EachLemmas.{find-map}
use Rattle.dns_rules.specs.MarkedSets.{MarkedSet}
use Rattle.dns_rules.specs.ProofErrors.{DsRecordShouldExist, DsResponseInsecure, UnknownKeyAlgorithm}
use Rattle.dns_rules.specs.Delegations.{ZoneVerdict, Signed, Insecure, Bogus, is_ds_set_of, is_supported_ds, is_readable_ds, verdict_by_ds, shows_no_ds, shows_no_ds_by_hash, is_insecure_above, verdict_without_ds, zone_verdict}
use Rattle.dns_rules.specs.Unsigned.{unsigned_mark}
use Rattle.dns_rules.specs.KeySets.{keys_outcome}
use Rattle.dns_rules.specs.ChainedSets.{ChainedSet, bare, chained_keys}
use Rattle.dns_rules.proofs.DsLemmas.{filter-filter}
use Rattle.dns_trust.specs.Beside.{outcome_beside_ds, outcome_beside, chained_beside}
use Rattle.dns_trust.specs.Unsigned.{unsupported_mark}
use Rattle.dns_trust.specs.KeysMarks.{MarkedValue, outcome_marked, by_ds_records, marked_by_found, marked_by_zone, chained_with}

-- neither signed nor wholly trusted
abbrev pub unproved : Proof → MarkedValue
unproved mark = record { mark = mark; sig = None; chain = [] }

pub by_anchors : (j : Judge) (placed : PlacedSet)
    → chained_with placed (outcome_marked j placed.set [] (keys_outcome j placed.set None)) ≡ chained_keys j placed
unfolding chained_keys
by_anchors j placed = refl

pub by_zone : (j : Judge) (placed : PlacedSet) (answer : Option (List ChainedSet))
    → chained_with placed (marked_by_zone j placed.set answer) ≡ chained_beside j placed answer
unfolding chained_beside
by_zone j placed answer = refl

-- ---- the DS set in an answer

pub no_answer : (j : Judge) (set : RrSet) → unproved proof.Bogus ≡ marked_by_zone j set None
unfolding zone_verdict
no_answer j set = refl

map_or-map : {X Y Z : Type 0} (g : Y → Z) (f : X → Y) (o : Option X) (d : Z)
    → option_map_or g (option_map f o) d ≡ option_map_or (λ x. g (f x)) o d
map_or-map g f None d = refl
map_or-map g f (Some x) d = refl

-- the DS verdict of an answer, by its DS set if it has one
abbrev pub verdict_found : VerifierAnswers → Labels → List ChainedSet → Option ChainedSet → ZoneVerdict
verdict_found verifier zone answer found =
    option_map_or (λ c. verdict_by_ds verifier zone c.judged.mark c.judged.set.records) found (verdict_without_ds zone (bare answer))

pub verdict_of_answer : (verifier : VerifierAnswers) (class : ℕ) (zone : Labels) (answer : List ChainedSet) (found : Option ChainedSet)
    → find (λ c. is_ds_set_of class zone c.judged) answer ≡ found
    → zone_verdict verifier class zone (Some (bare answer)) ≡ verdict_found verifier zone answer found
unfolding zone_verdict
verdict_of_answer verifier class zone answer found is =
    let test = is_ds_set_of class zone in
    let verdict = λ (f : MarkedSet). verdict_by_ds verifier zone f.mark f.set.records in
    let without = verdict_without_ds zone (bare answer) in
    ap (λ o. option_map_or verdict o without) (find-map test (λ c. c.judged) answer)
    ∙ map_or-map verdict (λ c. c.judged) (find (λ c. test c.judged) answer) without ∙ ap (verdict_found verifier zone answer) is

-- the mark by the DS set of an answer, if it has one
marked_found : (j : Judge) (set : RrSet) (answer : List ChainedSet) (found : Option ChainedSet)
    → find (λ c. is_ds_set_of set.class set.owner c.judged) answer ≡ found
    → marked_by_zone j set (Some answer)
    ≡ outcome_marked j set (option_map_or (λ c. c.chain) found [])
    (outcome_beside j set (Some (verdict_found j.answers set.owner answer found)))
marked_found j set answer found is =
    let marked = λ (o : Option ChainedSet) (v : ZoneVerdict). outcome_marked j set (option_map_or (λ c. c.chain) o [])
    (outcome_beside j set (Some v)) in
    ap (λ o. marked o (zone_verdict j.answers set.class set.owner (Some (bare answer)))) is
    ∙ ap (marked found) (verdict_of_answer j.answers set.class set.owner answer found is)

pub by_found : (j : Judge) (set : RrSet) (answer : List ChainedSet) (found : ChainedSet)
    → find (λ c. is_ds_set_of set.class set.owner c.judged) answer ≡ Some found
    → marked_by_found j set found ≡ marked_by_zone j set (Some answer)
by_found j set answer found is = sym (marked_found j set answer (Some found) is)

-- what an answer without a DS set of the owner leaves
unproved_if : (j : Judge) (set : RrSet) (b : Bool)
    → unproved ((unsigned_mark (if b then Insecure (DsResponseInsecure set.owner) else Bogus (DsRecordShouldExist set.owner))).mark)
    ≡ outcome_marked j set [] (outcome_beside j set (Some (if b then Insecure (DsResponseInsecure set.owner)
    else Bogus (DsRecordShouldExist set.owner))))
unproved_if j set true = refl
unproved_if j set false = refl

pub by_none : (j : Judge) (set : RrSet) (answer : List ChainedSet)
    → find (λ c. is_ds_set_of set.class set.owner c.judged) answer ≡ None
    → unproved ((unsigned_mark (verdict_without_ds set.owner (bare answer))).mark) ≡ marked_by_zone j set (Some answer)
by_none j set answer none =
    unproved_if j set
    (list_any (shows_no_ds set.owner) (bare answer)
    || (shows_no_ds_by_hash set.owner (bare answer) || list_any (is_insecure_above set.owner) (bare answer)))
    ∙ sym (marked_found j set answer None none)

-- ---- its records

abbrev has_one : List Rr → Bool
has_one [] = false
has_one (r ∷ rs) = true

any_step : (b : Bool) (r : Rr) (kept : List Rr) → (b || has_one kept) ≡ has_one (cond b (r ∷ kept) kept)
any_step true r kept = refl
any_step false r kept = refl

any_kept : (test : Rr → Bool) (rs : List Rr) → list_any test rs ≡ has_one (filter test rs)
any_kept test [] = refl
any_kept test (r ∷ rs) = ap (λ b. test r || b) (any_kept test rs) ∙ any_step (test r) r (filter test rs)

one_if : (rs : List Rr) → (rs ≡ [] → ⊥) → has_one rs ≡ true
one_if [] h = absurd (h refl)
one_if (r ∷ rs) h = refl

abbrev by_test : Judge → RrSet → List LinkValue → List Rr → Bool → Bool → MarkedValue
by_test j set front kept readable any =
    outcome_marked j set front (outcome_beside j set (Some
    (if any then Signed kept else if readable then Insecure UnknownKeyAlgorithm else Bogus (DsRecordShouldExist set.owner))))

by_unsupported : (j : Judge) (set : RrSet) (front : List LinkValue) (kept : List Rr) (readable : Bool)
    → unproved (if readable then proof.Insecure else proof.Bogus) ≡ by_test j set front kept readable false
by_unsupported j set front kept true = refl
by_unsupported j set front kept false = refl

pub none_supported : (j : Judge) (set : RrSet) (front : List LinkValue) (records : List Rr)
    → filter (is_supported_ds j.answers) records ≡ []
    → unproved (unsupported_mark records) ≡ by_ds_records j set front records
none_supported j set front records none =
    let test = is_supported_ds j.answers in
    let readable = list_any is_readable_ds records in
    by_unsupported j set front (filter test records) readable
    ∙ sym (ap (by_test j set front (filter test records) readable) (any_kept test records ∙ ap has_one none))

pub some_supported : (j : Judge) (set : RrSet) (front : List LinkValue) (records kept : List Rr)
    → kept ≡ filter (is_supported_ds j.answers) records
    → (kept ≡ [] → ⊥) → outcome_marked j set front (outcome_beside_ds j set kept) ≡ by_ds_records j set front records
some_supported j set front records kept is some =
    let test = is_supported_ds j.answers in
    ap (λ rs. outcome_marked j set front (outcome_beside_ds j set rs)) (is ∙ sym (filter-filter test records))
    ∙ sym (ap (by_test j set front (filter test records) (list_any is_readable_ds records)) (any_kept test records
    ∙ sym (ap has_one is) ∙ one_if kept some))
