-- The chains with which sets end stand, where those of the answers do.
use Rattle.std.proofs.Common.{◌≡◌, ℕ, ◌+◌, ◌==◌, Bool, true, false, List, [], ◌∷◌, ◌++◌, drop, length, Option, None, Some, slice_get, if◌then◌else◌, refl, sym, ap, ◌∙◌, subst}
use Rattle.std.specs.Option.{option_map, option_and_then}
use Rattle.std.proofs.lemmas.List.{length-append}
use Rattle.dns_model.specs.declared.proof.Proof.{Proof}
use Rattle.dns_model.specs.declared.proof.Proof.TheVariants as proof
use Rattle.dns_model.specs.Names.{Labels, parent}
use Rattle.dns_model.specs.Types.{type_dnskey}
use Rattle.dns_model.specs.Records.{Rr, RrSet, Question}
use Rattle.dns_model.specs.Chains.{Judge}
use Rattle.dns_model.specs.SoundAnswers.{Told, PlacedSet, is_secure}
use Rattle.dns_model.proofs.SetLemmas.{IsProper}
use Rattle.dns_rules.specs.Asking.{ask_of}
use Rattle.dns_rules.specs.ChainedSets.{ChainedSet, ChainedVerdict, bare, stands, chained_verdict, chained_by, chained_keys, chained_by_ds}
use Rattle.dns_rules.specs.Delegations.{ZoneVerdict, Signed, Insecure, Bogus, zone_verdict}
use Rattle.dns_rules.specs.KeySets.{needs_ds}
use Rattle.dns_rules.specs.MarkedSets.{MarkedSet}
use Rattle.dns_rules.specs.Marks.{is_proved, is_skipped, judged_by, most_signatures}
use Rattle.dns_rules.specs.Asking.{Limits}
use Rattle.dns_rules.specs.Outcome.{Outcome, Given, NeedsZone, Denied, outcome_of}
use Rattle.dns_rules.specs.Probes.{NsProbe}
use Rattle.dns_rules.specs.Probes as probes
use Rattle.dns_rules.specs.Unsigned.{set_start, question_start, needs_zone, unsigned_mark}
use Rattle.dns_rules.proofs.ChainedLemmas.{IsGoodAnswer, failed_verdict, good_verdict}
use Rattle.dns_rules.proofs.KeySetLemmas.{chained_keys-stands, chained_by_ds-stands}
use Rattle.dns_rules.proofs.StandLemmas.{IsGoodVerdict, AreGood, chained_by-stands}
use Rattle.dns_trust.specs.Beside.{chained_beside}
use Rattle.dns_trust.proofs.Beside.{beside_known}
use Rattle.dns_flow.specs.declared.phases.Seeker.{Seeker}
use Rattle.dns_flow.specs.declared.phases.Seeker.TheVariants.{Set, Ending}
use Rattle.dns_flow.specs.Phases.{GotValue, Answer, Probe, answer_in, probe_in, PhaseValue, Marked, NeedsDs, Trying, AtName, AtZone, Concluded, SetEnds, unsigned_with, found, search_at, after_probe, first_signatures, unasked, try_from, after_signature, signature_need, start_keys, start_set, start_by, start_ending, turn, after}
use Rattle.dns_flow.proofs.Tries.{is_next, next_drop}

-- the sets of an answer stand
abbrev pub GotStands : Judge → GotValue → Type 0
GotStands j (Answer answer) = IsGoodAnswer j answer
GotStands j (Probe seen) = Unit {0}

-- the verdicts of a set's first signatures have their chains, and the next one asks
pub record TriesStand (j : Judge) (q : Question) (placed : PlacedSet) (vs : List ChainedVerdict) : Type 0 where
  pub other : (placed.set.rtype == type_dnskey) ≡ false
  pub good : IsProper placed.set → AreGood j placed.set (first_signatures placed.set) vs
  pub kept : (r : Rr) → slice_get (first_signatures placed.set) (length vs) ≡ Some r → is_skipped q placed.set r ≡ false

-- it is a key set that no anchor decides
pub record NeedsStand (j : Judge) (placed : PlacedSet) : Type 0 where
  pub keys : (placed.set.rtype == type_dnskey) ≡ true
  pub needed : needs_ds j placed.set ≡ true

-- what a phase has found stands, in a step with this question
abbrev pub Stands : Judge → Question → PhaseValue → Type 0
Stands j q (Marked c) = IsProper c.judged.set → stands j c ≡ true
Stands j q (NeedsDs placed) = NeedsStand j placed
Stands j q (Trying placed vs) = TriesStand j q placed vs
Stands j q (AtName seeker class name) = Unit {0}
Stands j q (AtZone seeker class zone) = Unit {0}
Stands j q (Concluded o) = Unit {0}

stands_if : (j : Judge) (q : Question) (b : Bool) (x y : PhaseValue) → (b ≡ true → Stands j q x) → (b ≡ false → Stands j q y)
    → Stands j q (if b then x else y)
stands_if j q true x y first second = first refl
stands_if j q false x y first second = second refl

answer_good : (j : Judge) (got : GotValue) → GotStands j got → IsGoodAnswer j (answer_in got)
answer_good j (Answer answer) good = good
answer_good j (Probe seen) good = tt

-- ---- signatures

good_more : (j : Judge) (set : RrSet) (rs : List Rr) (vs : List ChainedVerdict) (r : Rr) (v : ChainedVerdict) → AreGood j set rs vs
    → slice_get rs (length vs) ≡ Some r → IsGoodVerdict j set r v → AreGood j set rs (vs ++ v ∷ [])
good_more j set [] [] r v good at one = cc
good_more j set (x ∷ rs) [] r v good at one =
    let same : r ≡ x = cc in
    (subst (λ y. IsGoodVerdict j set y v) same one, tt)
good_more j set [] (w ∷ ws) r v good at one = elim good [ ]
good_more j set (x ∷ rs) (w ∷ ws) r v good at one = (good.0, good_more j set rs ws r v good.1 at one)

decided_stands : (j : Judge) (q : Question) (placed : PlacedSet) (vs : List ChainedVerdict)
    → (IsProper placed.set → AreGood j placed.set (first_signatures placed.set) vs) → Stands j q (Marked (chained_by placed vs))
unfolding judged_by
decided_stands j q placed vs good = λ proper. chained_by-stands j placed most_signatures vs (good proper)

try_stands : (j : Judge) (q : Question) (placed : PlacedSet) (vs : List ChainedVerdict) (rs : List Rr)
    → drop (length vs) (first_signatures placed.set) ≡ rs
    → (placed.set.rtype == type_dnskey) ≡ false → (IsProper placed.set → AreGood j placed.set (first_signatures placed.set) vs)
    → Stands j q (try_from q placed vs rs)
unfolding try_from
try_stands j q placed vs [] left other good = decided_stands j q placed vs good
try_stands j q placed vs (r ∷ rs) left other good =
    let all = first_signatures placed.set in
    let here = is_next all (length vs) r rs left in
    stands_if j q (is_skipped q placed.set r) (try_from q placed (vs ++ unasked ∷ []) rs) (Trying placed vs)
    (λ yes. try_stands j q placed (vs ++ unasked ∷ []) rs (next_drop all vs unasked r rs left) other
    (λ proper. good_more j placed.set all vs r unasked (good proper) here.at (failed_verdict j placed.set r)))
    (λ no. record {
      other = other;
      good = good;
      kept = λ s at.
          let P : Rr → Type 0 = λ x. is_skipped q placed.set x ≡ false in
          let both : Some r ≡ Some s = sym here.at ∙ at in
          let same : r ≡ s = cc in
          subst P same no;
    })

signature_stands : (j : Judge) (q : Question) (placed : PlacedSet) (vs : List ChainedVerdict) (answer : Option (List ChainedSet))
    (o : Option Rr)
    → slice_get (first_signatures placed.set) (length vs) ≡ o → TriesStand j q placed vs → IsGoodAnswer j answer
    → Stands j q (after_signature j q placed vs answer o)
signature_stands j q placed vs answer None at tries good = decided_stands j q placed vs tries.good
signature_stands j q placed vs answer (Some r) at tries good =
    let all = first_signatures placed.set in
    let v = chained_verdict j placed.set r answer in
    let more : IsProper placed.set → AreGood j placed.set all (vs ++ v ∷ []) =
    λ proper. good_more j placed.set all vs r v (tries.good proper) at
    (good_verdict j placed.set q r answer proper tries.other (tries.kept r at) good) in
    stands_if j q (is_proved v.verdict) (Marked (chained_by placed (vs ++ v ∷ [])))
    (try_from q placed (vs ++ v ∷ []) (drop (length vs + 1) all))
    (λ yes. decided_stands j q placed (vs ++ v ∷ []) more)
    (λ no. try_stands j q placed (vs ++ v ∷ []) (drop (length vs + 1) all) (ap (λ n. drop n all) (length-append vs (v ∷ [])))
    tries.other more)

-- ---- searches

unsigned_stands : (j : Judge) (placed : PlacedSet) (mark : Proof) → is_secure mark ≡ false → stands j (unsigned_with placed mark) ≡ true
unsigned_stands j placed proof.Secure insecure = cc
unsigned_stands j placed proof.Insecure insecure = refl
unsigned_stands j placed proof.Bogus insecure = refl
unsigned_stands j placed proof.Indeterminate insecure = refl

found_stands : (j : Judge) (q : Question) (told : Told) (seeker : Seeker) (mark : Proof) → is_secure mark ≡ false
    → Stands j q (found q told seeker mark)
found_stands j q told (Set placed) mark insecure = λ proper. unsigned_stands j placed mark insecure
found_stands j q told Ending mark insecure = tt

zone_insecure : (zone : ZoneVerdict) → is_secure (unsigned_mark zone).mark ≡ false
zone_insecure (Signed ds) = refl
zone_insecure (Insecure kind) = refl
zone_insecure (Bogus kind) = refl

search_stands : (j : Judge) (q : Question) (told : Told) (seeker : Seeker) (class : ℕ) (name : Labels)
    → Stands j q (search_at q told seeker class name)
search_stands j q told seeker class [] = found_stands j q told seeker proof.Bogus refl
search_stands j q told seeker class (label ∷ name) = tt

probe_stands : (j : Judge) (q : Question) (told : Told) (seeker : Seeker) (class : ℕ) (name : Labels) (seen : NsProbe)
    → Stands j q (after_probe q told seeker class name seen)
probe_stands j q told seeker class name probes.Found = tt
probe_stands j q told seeker class name probes.Absent = search_stands j q told seeker class (parent name)
probe_stands j q told seeker class name probes.Failed = found_stands j q told seeker proof.Bogus refl

-- ---- the rules

ds_stands : (j : Judge) (q : Question) (placed : PlacedSet) (answer : Option (List ChainedSet)) → NeedsStand j placed
    → IsGoodAnswer j answer → Stands j q (Marked (chained_beside j placed answer))
unfolding chained_by_ds
ds_stands j q placed answer h good =
    subst (λ c. Stands j q (Marked c)) (sym (beside_known j placed answer h.needed))
    (λ proper. chained_by_ds-stands j placed answer proper h.keys good)

-- where an ask leads
pub after_stands : (j : Judge) (q : Question) (told : Told) (phase : PhaseValue) (got : GotValue) → Stands j q phase → GotStands j got
    → Stands j q (after j q told phase got)
unfolding after
after_stands j q told (Marked c) got stand good = stand
after_stands j q told (NeedsDs placed) got stand good = ds_stands j q placed (answer_in got) stand (answer_good j got good)
after_stands j q told (Trying placed vs) got stand good =
    signature_stands j q placed vs (answer_in got) (slice_get (first_signatures placed.set) (length vs)) refl stand (answer_good j got good)
after_stands j q told (AtName seeker class name) got stand good = probe_stands j q told seeker class name (probe_in got)
after_stands j q told (AtZone seeker class zone) got stand good =
    let verdict = zone_verdict j.answers class zone (option_map bare (answer_in got)) in
    found_stands j q told seeker (unsigned_mark verdict).mark (zone_insecure verdict)
after_stands j q told (Concluded o) got stand good = tt

keys_stand : (j : Judge) (q : Question) (placed : PlacedSet) → (placed.set.rtype == type_dnskey) ≡ true → Stands j q (start_keys j placed)
unfolding chained_keys
keys_stand j q placed keys =
    stands_if j q (needs_ds j placed.set) (NeedsDs placed) (Marked (chained_keys j placed)) (λ yes. record { keys = keys; needed = yes })
    (λ no proper. chained_keys-stands j placed proper keys)

-- how a set begins
pub set_stands : (j : Judge) (q : Question) (told : Told) (placed : PlacedSet) → Stands j q (start_set j q told placed)
unfolding start_set
set_stands j q told placed =
    let by_zone = search_at q told (Set placed) placed.set.class (set_start placed.set) in
    let tries = try_from q placed [] (first_signatures placed.set) in
    stands_if j q (placed.set.rtype == type_dnskey) (start_keys j placed) (if needs_zone placed.set then by_zone
    else tries) (λ keys. keys_stand j q placed keys)
    (λ other. stands_if j q (needs_zone placed.set) by_zone tries
    (λ yes. search_stands j q told (Set placed) placed.set.class (set_start placed.set))
    (λ no. try_stands j q placed [] (first_signatures placed.set) refl other (λ proper. tt)))

outcome_stands : (j : Judge) (q : Question) (told : Told) (o : Outcome) → Stands j q (start_by q told o)
outcome_stands j q told (Given denial) = tt
outcome_stands j q told NeedsZone = search_stands j q told Ending q.class (question_start q)
outcome_stands j q told (Denied p) = tt

-- how an ending begins
pub ending_stands : (j : Judge) (limits : Limits) (q : Question) (told : Told) (sets : List MarkedSet)
    → Stands j q (start_ending limits q told sets)
unfolding start_ending
ending_stands j limits q told sets = outcome_stands j q told (outcome_of limits q told sets)

signature_end : (j : Judge) (q : Question) (placed : PlacedSet) (vs : List ChainedVerdict) (o : Option Question) (c : ChainedSet)
    → TriesStand j q placed vs
    → signature_need placed vs o ≡ SetEnds c → IsProper c.judged.set → stands j c ≡ true
signature_end j q placed vs None c tries is =
    let same : chained_by placed vs ≡ c = cc in
    subst (λ d. IsProper d.judged.set → stands j d ≡ true) same (decided_stands j q placed vs tries.good)
signature_end j q placed vs (Some question) c tries is = cc

-- how a set ends
pub end_stands : (j : Judge) (q : Question) (phase : PhaseValue) (c : ChainedSet) → Stands j q phase → turn phase ≡ SetEnds c
    → IsProper c.judged.set
    → stands j c ≡ true
unfolding turn
end_stands j q (Marked d) c stand is =
    let same : d ≡ c = cc in
    subst (λ x. IsProper x.judged.set → stands j x ≡ true) same stand
end_stands j q (NeedsDs placed) c stand is = cc
end_stands j q (Trying placed vs) c stand is =
    signature_end j q placed vs (option_and_then (ask_of placed.set) (slice_get (first_signatures placed.set) (length vs))) c stand is
end_stands j q (AtName seeker class name) c stand is = cc
end_stands j q (AtZone seeker class zone) c stand is = cc
end_stands j q (Concluded o) c stand is = cc
