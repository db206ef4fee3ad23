-- What is written of an answer: its records, each behind its mark, what is denied, and why what isn't Secure isn't
-- (RFC 1035, 5.1; RFC 4035, 4.3).
use Rattle.std.specs.Prelude.{ℕ, Bool, not, ◌+◌, ◌-◌, ◌==◌, ◌&&◌, List, [], ◌∷◌, ◌++◌, codes, length, Option, Some, Ok, Err, slice_get, if◌then◌else◌}
use Rattle.std.specs.Prelude as prelude
use Rattle.std.specs.List.{find, flat_map}
use Rattle.std.specs.Option.{option_map_or}
use Rattle.dns_model.specs.declared.denial.Denial.{Denial}
use Rattle.dns_model.specs.declared.denial.Denial.TheVariants.{None, Absent, Expanded}
use Rattle.dns_model.specs.declared.proof.Proof.{Proof}
use Rattle.dns_model.specs.declared.proof.Proof.TheVariants.{Secure, Insecure, Bogus, Indeterminate}
use Rattle.dns_model.specs.declared.section.Section.TheVariants.{Answer}
use Rattle.dns_model.specs.Chains.{Judge}
use Rattle.dns_model.specs.Records.{Rr, Question}
use Rattle.dns_model.specs.SoundAnswers.{ResponseValue, is_secure, section_eq}
use Rattle.dns_model.specs.Trails.{AskedValue, JudgedSetValue}
use Rattle.dns_model.specs.Types.{type_rrsig}
use Rattle.dns_causes.specs.Causes.{causes}
use Rattle.dns_handle.specs.Errors as seen
use Rattle.dns_handle.specs.Errors.{ErrorValue, Reply, Dns, Nsec}
use Rattle.dns_presentation.specs.Presentation.{presentation}
use Rattle.dns_report.specs.Faults.{fault_text}
use Rattle.dns_rules.specs.Asking.{Limits}
use Rattle.dns_rules.specs.ProofErrors.{ProofErrorKindValue}
use Rattle.dns_query_answer.specs.DenialWords.{absent_words, claim_words, denial_reason}
use Rattle.dns_query_answer.specs.Places.{Explained, Place, causes_of, cause_at}
use Rattle.dns_query_answer.specs.Reasons.{reason_words}
use Rattle.dns_query_answer.specs.SentenceWords.{code_words, set_words, title}

-- ---- records

-- a mark, and spaces up to the column where the record begins
abbrev pub mark_column : Proof → List ℕ
mark_column Secure = codes "secure         "
mark_column Insecure = codes "insecure       "
mark_column Bogus = codes "bogus          "
mark_column Indeterminate = codes "indeterminate  "

-- a record as a line of a master file, behind its mark
abbrev pub record_line : Rr → List ℕ
record_line r = mark_column r.proof ++ (presentation r ++ 10 ∷ [])

-- a line for each record, in order
abbrev pub record_lines : List Rr → List ℕ
record_lines records = flat_map record_line records

-- ---- the trail behind them

-- the trail of an answer, with causes
abbrev pub explained : ℕ → ResponseValue → List (List (Option ProofErrorKindValue)) → Explained
explained moment answer found = record { moment = moment; steps = answer.trail; causes = found }

-- the last step, whose query is that of the lookup
abbrev pub top_number : Explained → ℕ
top_number g = length g.steps - 1

abbrev pub top_of : Explained → Option AskedValue
top_of g = slice_get g.steps (top_number g)

-- ---- sets that aren't Secure

-- `MARK: OWNER TYPE: `
abbrev pub set_title : JudgedSetValue → List ℕ
set_title set = title set.mark ++ (codes ": " ++ (set_words set.owner set.rtype ++ codes ": "))

-- `MARK: OWNER TYPE: WHY`
abbrev pub why_sentence : Explained → Place → List ℕ
why_sentence g p = set_title p.set ++ (reason_words g.steps g p ++ 10 ∷ [])

-- of a set of the answer section that isn't Secure
unfoldable pub set_sentence : Explained → Place → List ℕ
set_sentence g p = if section_eq Answer p.set.section && not (is_secure p.set.mark) then why_sentence g p else []

-- of the sets of a step, whose first has this number
unfoldable pub sentences_from : Explained → AskedValue → List (Option ProofErrorKindValue) → ℕ → List JudgedSetValue → List ℕ
sentences_from g step found n [] = []
sentences_from g step found n (set ∷ sets) =
    set_sentence g (record { step = step; set = set; cause = cause_at found n }) ++ sentences_from g step found (n + 1) sets

abbrev pub top_sentences : Explained → Option AskedValue → List ℕ
top_sentences g top = option_map_or (λ step. sentences_from g step (causes_of g (top_number g)) 0 step.sets) top []

-- ---- what is denied

-- why it isn't shown, where it isn't
abbrev pub top_reason : Explained → Proof → Option AskedValue → List ℕ
top_reason g proof top = option_map_or (λ step. denial_reason g proof (top_number g) step) top []

unfoldable pub why_denied : Explained → Proof → List ℕ
why_denied g proof = if is_secure proof then [] else top_reason g proof (top_of g)

-- `MARK: CLAIM: WHY`
unfoldable pub denial_sentence : Explained → Proof → List ℕ → List ℕ
denial_sentence g proof claim = title proof ++ (codes ": " ++ (claim ++ (why_denied g proof ++ 10 ∷ [])))

abbrev pub denial_text : Question → ℕ → Explained → Denial → List ℕ
denial_text q code g None = []
denial_text q code g (Absent mark) = denial_sentence g mark (absent_words q code)
denial_text q code g (Expanded mark) = denial_sentence g mark (codes "this is made from a wildcard, and no closer name is there")

-- ---- signatures

-- a signature that isn't Secure
abbrev pub is_unproved_signature : Rr → Bool
is_unproved_signature r = (r.rtype == type_rrsig) && not (is_secure r.proof)

-- `MARK: OWNER RRSIG`
unfoldable pub signature_title : Rr → List ℕ
signature_title r = title r.proof ++ (codes ": " ++ set_words r.owner r.rtype)

-- and why: no signature is over signatures (RFC 4035, 2.2)
unfoldable pub signature_sentence : Rr → List ℕ
signature_sentence r =
    signature_title r ++ codes ": a signature is judged with the records that it signs, and these weren't asked for\n"

-- of the first such, where signatures themselves were asked for
abbrev pub signatures_text : Question → List Rr → List ℕ
signatures_text q answers = if q.rtype == type_rrsig then option_map_or signature_sentence (find is_unproved_signature answers) [] else []

-- ---- the text

-- the answer section, what is denied, and why sets of it aren't Secure
unfoldable pub response_text : Explained → ResponseValue → List ℕ → List ℕ
response_text g answer denial = record_lines answer.message.answers ++ (denial ++ top_sentences g (top_of g))

abbrev pub ok_text : Question → Explained → ResponseValue → List ℕ
ok_text q g answer =
    response_text g answer (denial_text q answer.message.response_code g answer.denial) ++ signatures_text q answer.message.answers

-- what isn't shown
abbrev pub refused_claim : Question → ℕ → List Rr → List ℕ
refused_claim q code answers = codes "it isn't shown that " ++ claim_words q code answers

-- an answer that is refused: its denial doesn't hold
abbrev pub refused_text : Question → Explained → ResponseValue → Proof → List ℕ
refused_text q g answer proof =
    response_text g answer (denial_sentence g proof (refused_claim q answer.message.response_code answer.message.answers))

-- by the line of a report
unfoldable pub fault_line : ErrorValue → List ℕ
fault_line error = codes "no answer: " ++ fault_text error

-- why there is no answer
abbrev pub error_line : ErrorValue → List ℕ
error_line seen.Timeout = codes "no answer: the server didn't answer in time" ++ 10 ∷ []
error_line seen.Busy = codes "no answer: the server was busy" ++ 10 ∷ []
error_line seen.NoConnections = codes "no answer: no connection can be made" ++ 10 ∷ []
error_line seen.Truncated = codes "no answer: the reply was truncated" ++ 10 ∷ []
error_line (Dns (seen.ResponseCode code)) = codes "no answer: the server answered with " ++ (code_words code ++ 10 ∷ [])
error_line (Dns seen.DnssecBogus) = codes "Bogus: validation failed" ++ 10 ∷ []
error_line seen.NoMemory = []
error_line error = fault_line error

abbrev pub error_text : Question → ℕ → List (List (Option ProofErrorKindValue)) → ErrorValue → List ℕ
error_text q moment found (Dns (Nsec asked response proof)) = refused_text q (explained moment response found) response proof
error_text q moment found error = error_line error

-- what is written of what a lookup of a question came to at a moment, with the causes of its trail
abbrev pub answer_text : Question → ℕ → List (List (Option ProofErrorKindValue)) → Reply → List ℕ
answer_text q moment found (Ok answer) = ok_text q (explained moment answer found) answer
answer_text q moment found (Err error) = error_text q moment found error

-- ---- the causes

-- the answer, or the one that is refused
abbrev pub told_error : ErrorValue → Option ResponseValue
told_error (Dns (Nsec asked response proof)) = Some response
told_error error = prelude.None

abbrev pub told_answer : Reply → Option ResponseValue
told_answer (Ok answer) = Some answer
told_answer (Err error) = told_error error

-- those of the sets of its trail; none without an answer
abbrev pub answer_causes : Judge → Limits → Reply → List (List (Option ProofErrorKindValue))
answer_causes j limits reply = option_map_or (λ answer. causes j limits answer.trail) (told_answer reply) []
