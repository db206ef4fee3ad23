-- Derivations on worked rows where NSEC records of the root's zone deny a name or a type, or names closer than a wildcard, shown by
-- computing them; and what they become where one thing in them is another (RFC 4035, 5.3.4 and 5.4).
use Rattle.std.specs.Prelude.{◌≡◌, ℕ, true, false, List, [], ◌∷◌, ◌++◌, None, Some, refl}
use Rattle.dns_model.specs.declared.proof.Proof.TheVariants.{Secure, Insecure, Bogus}
use Rattle.dns_model.specs.declared.section.Section.TheVariants.{Authority}
use Rattle.dns_model.specs.declared.denial.Denial.TheVariants as denial
use Rattle.dns_model.specs.declared.trail.AskRef.TheVariants.{Step}
use Rattle.dns_model.specs.Names.{Labels, wire}
use Rattle.dns_model.specs.Records.{Rr, Question}
use Rattle.dns_model.specs.SoundAnswers.{Told}
use Rattle.dns_model.specs.Trails.{AskedValue, JudgedSetValue, EndingValue, Records, Answered, Denied}
use Rattle.dns_model.proofs.Worked.{letter_a, name_a}
use Rattle.dns_model.proofs.Delegation.{signature_of}
use Rattle.dns_rules.specs.Marks.{key_question}
use Rattle.dns_rules.specs.Derivation.{derivation}
use Rattle.dns_rules.proofs.WorkedTrailValues.{record_of, reply_of, answer_entry, keys_found, within}
use Rattle.dns_rules.proofs.WorkedTrails.{computed}
use Rattle.dns_rules.proofs.WorkedDelegations.{zone, by_root, by_both, step_of, zone_entry, zone_keys}
use Rattle.dns_rules.proofs.WorkedSearches.{address_question, host_seen, zone_seen, plain, no_records, searched, whole_search, searched_above, soa_entry}
use Rattle.dns_rules.proofs.WorkedVerdicts.{with_soa, with_a}

-- ---- names and records

abbrev pub name_of_a : Labels
name_of_a = letter_a ∷ []

abbrev pub missing : Labels
missing = (98 ∷ []) ∷ []

-- a record and its signature, which counts these labels and names this signer
abbrev pub signed_record : Labels → ℕ → List ℕ → ℕ → Labels → List Rr
signed_record owner rtype rdata labels signer = record_of owner rtype rdata ∷ record_of owner 46 (signature_of rtype labels signer) ∷ []

-- the root's zone has the owners `.`, `a.` and `example.`
abbrev pub nsec_of_root : List Rr
nsec_of_root = signed_record [] 47 (name_a ++ with_soa) 0 []

abbrev pub nsec_of_a : List Rr
nsec_of_a = signed_record name_of_a 47 (wire zone ++ with_a) 1 []

-- an address of `b.`, from the wildcard below the root
abbrev pub expanded : List Rr
expanded = signed_record missing 1 (192 ∷ 0 ∷ 2 ∷ 1 ∷ []) 0 []

-- ---- steps

-- a Secure set, whose first signature asked for the root's keys in this step
abbrev pub answering : Labels → ℕ → ℕ → JudgedSetValue
answering owner rtype asked = record (answer_entry rtype Secure (Some 0) (Step asked ∷ [])) { owner = owner }

abbrev pub denying : Labels → ℕ → ℕ → JudgedSetValue
denying owner rtype asked = record (answering owner rtype asked) { section = Authority }

abbrev pub query_of : Labels → ℕ → Question
query_of owner rtype = record { owner = owner; rtype = rtype; class = 1 }

-- what came in the answer and in the authority section
abbrev pub told_of : ℕ → List Rr → List Rr → Told
told_of code answers authorities = record { code = code; answers = answers; authorities = authorities; additionals = [] }

-- at the top: the query, what came, and what was made of it
abbrev pub denied_step : Question → Told → List JudgedSetValue → EndingValue → AskedValue
denied_step query told sets ending = step_of 0 query (Records told false) sets ending

-- one set asks for the root's keys, or two do
abbrev pub after_one : AskedValue → List AskedValue
after_one step = keys_found ∷ step ∷ []

abbrev pub after_two : AskedValue → List AskedValue
after_two step = keys_found ∷ keys_found ∷ step ∷ []

-- ---- a name that doesn't exist

-- one record covers the wildcard, and the other the name
abbrev pub both_covered : Told
both_covered = told_of 3 [] (nsec_of_root ++ nsec_of_a)

abbrev pub name_error : EndingValue → AskedValue
name_error ending =
    denied_step (query_of missing 1) both_covered (denying [] 47 0 ∷ denying name_of_a 47 1 ∷ []) ending

abbrev pub by_both_covered : EndingValue → List AskedValue
by_both_covered ending = after_two (name_error ending)

pub no_such_name : derivation by_root (within 26) [] (by_both_covered (Answered (denial.Absent Secure))) ≡ true
unfolding computed
no_such_name = refl

pub insecure_though_shown : derivation by_root (within 26) []
    (by_both_covered (Answered (denial.Absent Insecure))) ≡ false
unfolding computed
insecure_though_shown = refl

pub denied_though_shown : derivation by_root (within 26) [] (by_both_covered (Denied Bogus)) ≡ false
unfolding computed
denied_though_shown = refl

-- nothing is said of the wildcard
abbrev pub by_one_covered : EndingValue → List AskedValue
by_one_covered ending = after_one (denied_step (query_of missing 1) (told_of 3 [] nsec_of_a) (denying name_of_a 47 0 ∷ []) ending)

pub bogus_by_one_covering : derivation by_root (within 26) [] (by_one_covered (Denied Bogus)) ≡ true
unfolding computed
bogus_by_one_covering = refl

pub absent_by_one_covering : derivation by_root (within 26) []
    (by_one_covered (Answered (denial.Absent Secure))) ≡ false
unfolding computed
absent_by_one_covering = refl

-- nothing is said at all, and the root's zone is signed
pub bogus_without_denials :
    derivation by_root (within 26) []
    (plain missing no_records ∷ record (denied_step (query_of missing 1) (told_of 3 [] []) [] (Denied Bogus)) {
      excuse =
          Step 0 ∷ [];
    } ∷ []) ≡ true
unfolding computed
bogus_without_denials = refl

-- ---- records of two zones

-- beside those of the root one of `example.`, whose keys are anchored too
abbrev pub two_signers : EndingValue → List AskedValue
two_signers ending =
    keys_found ∷ keys_found ∷ step_of 1 (key_question 1 zone) (reply_of zone_keys []) (zone_entry 48 Secure None [] ∷ [])
    (Answered denial.None)
    ∷ denied_step (query_of missing 1) (told_of 3 [] (nsec_of_root ++ nsec_of_a ++ signed_record zone 47 (wire zone ++ with_soa) 1 zone))
    (denying [] 47 0 ∷ denying name_of_a 47 1 ∷ denying zone 47 2 ∷ []) ending ∷ []

pub bogus_by_two_signers : derivation by_both (within 26) [] (two_signers (Denied Bogus)) ≡ true
unfolding computed
bogus_by_two_signers = refl

pub absent_by_two_signers : derivation by_both (within 26) [] (two_signers (Answered (denial.Absent Secure))) ≡ false
unfolding computed
absent_by_two_signers = refl

-- ---- a type that a name doesn't have

abbrev pub at_the_name : ℕ → EndingValue → List AskedValue
at_the_name rtype ending =
    after_one (denied_step (query_of name_of_a rtype) (told_of 0 [] nsec_of_a) (denying name_of_a 47 0 ∷ []) ending)

pub no_such_type : derivation by_root (within 26) [] (at_the_name 16 (Answered (denial.Absent Secure))) ≡ true
unfolding computed
no_such_type = refl

pub bogus_where_the_type_is : derivation by_root (within 26) [] (at_the_name 1 (Denied Bogus)) ≡ true
unfolding computed
bogus_where_the_type_is = refl

-- ---- an answer from a wildcard

-- the address, and these records beside it
abbrev pub from_wildcard : List Rr → List JudgedSetValue → EndingValue → AskedValue
from_wildcard authorities sets ending =
    denied_step (query_of missing 1) (told_of 0 expanded authorities)
    (answering missing 1 0 ∷ sets) ending

abbrev pub expansion : EndingValue → AskedValue
expansion ending = from_wildcard nsec_of_a (denying name_of_a 47 1 ∷ []) ending

abbrev pub by_expansion : EndingValue → List AskedValue
by_expansion ending = after_two (expansion ending)

pub nothing_closer : derivation by_root (within 26) [] (by_expansion (Answered (denial.Expanded Secure))) ≡ true
unfolding computed
nothing_closer = refl

pub plain_though_expanded : derivation by_root (within 26) [] (by_expansion (Answered denial.None)) ≡ false
unfolding computed
plain_though_expanded = refl

pub bogus_if_nothing_is_denied : derivation by_root (within 26) []
    (after_one (from_wildcard [] [] (Denied Bogus))) ≡ true
unfolding computed
bogus_if_nothing_is_denied = refl

pub plain_if_nothing_is_denied : derivation by_root (within 26) []
    (after_one (from_wildcard [] [] (Answered denial.None))) ≡ false
unfolding computed
plain_if_nothing_is_denied = refl

-- an answer whose signature counts each label needs no denial, and none is expected beside it
abbrev pub plain_answer : List Rr → List JudgedSetValue → EndingValue → AskedValue
plain_answer authorities sets ending =
    denied_step (query_of missing 1) (told_of 0 (signed_record missing 1 (192 ∷ 0 ∷ 2 ∷ 1 ∷ []) 1 []) authorities)
    (answering missing 1 0 ∷ sets) ending

pub plain_alone : derivation by_root (within 26) [] (after_one (plain_answer [] [] (Answered denial.None))) ≡ true
unfolding computed
plain_alone = refl

pub bogus_beside_a_denial :
    derivation by_root (within 26) []
    (after_two (plain_answer nsec_of_a (denying name_of_a 47 1 ∷ []) (Denied Bogus))) ≡ true
unfolding computed
bogus_beside_a_denial = refl

-- ---- NSEC records that deny nothing

-- one that was asked for stands in the answer section
pub nsec_as_the_answer :
    derivation by_root (within 26) []
    (after_one (denied_step (query_of name_of_a 47) (told_of 0 nsec_of_a []) (answering name_of_a 47 0 ∷ []) (Answered denial.None))) ≡ true
unfolding computed
nsec_as_the_answer = refl

-- one that can't be read is there, but says nothing
pub bogus_by_an_unreadable_nsec :
    derivation by_root (within 26) []
    (after_one
    (denied_step (query_of name_of_a 16) (told_of 0 [] (signed_record name_of_a 47 [] 1 [])) (denying name_of_a 47 0 ∷ []) (Denied Bogus)))
    ≡ true
unfolding computed
bogus_by_an_unreadable_nsec = refl

-- ---- no answer where no more than Insecure can be expected

-- the search for the query's zone finds an unsigned one
abbrev pub unanswered : EndingValue → List AskedValue
unanswered ending =
    searched host_seen zone_seen (record (denied_step address_question (told_of 3 [] []) [] ending) { excuse = whole_search })

pub insecure_by_the_search : derivation by_root (within 26) [] (unanswered (Answered (denial.Absent Insecure))) ≡ true
unfolding computed
insecure_by_the_search = refl

pub denied_though_insecure : derivation by_root (within 26) [] (unanswered (Denied Bogus)) ≡ false
unfolding computed
denied_though_insecure = refl

-- an Insecure SOA of the zone above the name came, and nothing is searched
pub insecure_by_the_authority :
    derivation by_root (within 26) []
    (searched_above
    (denied_step address_question (told_of 3 [] (record_of zone 6 [] ∷ [])) (soa_entry Insecure (Step 0 ∷ Step 2 ∷ []) ∷ [])
    (Answered (denial.Absent Insecure)))) ≡ true
unfolding computed
insecure_by_the_authority = refl

-- ---- NSEC3 records that deny nothing

-- one that can't be read is there, but says nothing
abbrev pub by_unreadable_nsec3 : EndingValue → List AskedValue
by_unreadable_nsec3 ending =
    after_one (denied_step (query_of missing 1) (told_of 3 [] (signed_record zone 50 [] 1 [])) (denying zone 50 0 ∷ []) ending)

pub bogus_by_an_unreadable_nsec3 : derivation by_root (within 26) [] (by_unreadable_nsec3 (Denied Bogus)) ≡ true
unfolding computed
bogus_by_an_unreadable_nsec3 = refl

pub absent_by_an_unreadable_nsec3 : derivation by_root (within 26) []
    (by_unreadable_nsec3 (Answered (denial.Absent Secure))) ≡ false
unfolding computed
absent_by_an_unreadable_nsec3 = refl

-- an NSEC record that shows that a type isn't there, and an NSEC3 beside it
abbrev pub by_both_kinds : EndingValue → List AskedValue
by_both_kinds ending =
    after_two
    (denied_step (query_of name_of_a 16) (told_of 0 [] (nsec_of_a ++ signed_record zone 50 [] 1 []))
    (denying name_of_a 47 0 ∷ denying zone 50 1 ∷ []) ending)

pub bogus_by_both_kinds : derivation by_root (within 26) [] (by_both_kinds (Denied Bogus)) ≡ true
unfolding computed
bogus_by_both_kinds = refl

pub absent_by_both_kinds : derivation by_root (within 26) [] (by_both_kinds (Answered (denial.Absent Secure))) ≡ false
unfolding computed
absent_by_both_kinds = refl

-- one that was asked for stands in the answer section, and denies nothing
pub nsec3_as_the_answer :
    derivation by_root (within 26) []
    (after_one (denied_step (query_of zone 50) (told_of 0 (signed_record zone 50 [] 1 []) []) (answering zone 50 0 ∷ [])
    (Answered denial.None)))
    ≡ true
unfolding computed
nsec3_as_the_answer = refl
