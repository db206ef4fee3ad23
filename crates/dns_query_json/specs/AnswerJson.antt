-- An answer as one JSON value (RFC 8259): what was asked for, the status, the lines for people, the code, what is denied, the records with
-- their marks, the chains of the Secure sets, and the queries that were sent.
use Rattle.std.specs.Prelude.{ℕ, ◌-◌, List, [], ◌∷◌, ◌++◌, codes, length, nat_lt, if◌then◌else◌, Option, Some, Ok, Err}
use Rattle.std.specs.Prelude as prelude
use Rattle.std.specs.Fmt.{decimal}
use Rattle.std.specs.List.{between}
use Rattle.dns_handle.specs.Errors as seen
use Rattle.dns_handle.specs.Errors.{Reply, ErrorValue, Dns, Nsec}
use Rattle.dns_model.specs.Chains.{LinkValue, Anchored, Matched, KeySet, Signed}
use Rattle.dns_model.specs.Names.{Labels}
use Rattle.dns_model.specs.NameText.{printed}
use Rattle.dns_model.specs.Records.{Rr, Question, MessageValue}
use Rattle.dns_model.specs.Signing.{key_tag}
use Rattle.dns_model.specs.SoundAnswers.{ChainValue, ResponseValue}
use Rattle.dns_model.specs.declared.denial.Denial.{Denial}
use Rattle.dns_model.specs.declared.denial.Denial.TheVariants.{None, Absent, Expanded}
use Rattle.dns_model.specs.declared.proof.Proof.{Proof}
use Rattle.dns_presentation.specs.Presentation.{presentation}
use Rattle.dns_query_answer.specs.AnswerText.{told_answer}
use Rattle.dns_query_handle.specs.Notes.{NoteValue}
use Rattle.dns_record.specs.Words.{type_word}
use Rattle.dns_report.specs.Faults.{fault_text}
use Rattle.dns_report.specs.LineWords.{mark_word, section_word}
use Rattle.dns_query_json.specs.Json.{number_or_null, named, number_field, string_field, listed}

-- ---- names and types

-- `"type":TYPE`
unfoldable pub type_field : ℕ → List ℕ
type_field rtype = string_field (codes "type") (type_word rtype)

-- `"name":NAME,"type":TYPE`
unfoldable pub question_fields : Labels → ℕ → List ℕ
question_fields owner rtype = string_field (codes "name") (printed owner) ++ (44 ∷ type_field rtype)

-- ---- records

unfoldable pub mark_field : Proof → List ℕ
mark_field mark = string_field (codes "mark") (mark_word mark)

-- a record with its mark, as a line of a master file (RFC 1035, 5.1)
unfoldable pub record_value : Rr → List ℕ
record_value r = 123 ∷ (mark_field r.proof ++ (44 ∷ (string_field (codes "record") (presentation r) ++ 125 ∷ [])))

unfoldable pub records_field : List ℕ → List Rr → List ℕ
records_field name records = named name ++ listed record_value records

-- the records of the three sections
unfoldable pub sections_fields : MessageValue → List ℕ
sections_fields m =
    records_field (codes "answers") m.answers
    ++ (44 ∷ (records_field (codes "authorities") m.authorities ++ (44 ∷ records_field (codes "additionals") m.additionals)))

-- ---- what is denied

-- that there is no such name or record, that no closer name than a wildcard's is there, or what isn't shown to be so; and with which mark
unfoldable pub denial_object : List ℕ → Proof → List ℕ
denial_object kind mark = 123 ∷ (string_field (codes "kind") kind ++ (44 ∷ (mark_field mark ++ 125 ∷ [])))

abbrev pub denial_value : Denial → List ℕ
denial_value None = codes "null"
denial_value (Absent mark) = denial_object (codes "absent") mark
denial_value (Expanded mark) = denial_object (codes "expanded") mark

-- an answer that is refused denies, and that isn't shown (RFC 4035, 5.4)
abbrev pub refused_value : ErrorValue → List ℕ
refused_value (Dns (Nsec asked response proof)) = denial_object (codes "refused") proof
refused_value error = codes "null"

abbrev pub denied_value : Reply → List ℕ
denied_value (Ok response) = denial_value response.denial
denied_value (Err error) = refused_value error

unfoldable pub denial_field : Reply → List ℕ
denial_field reply = named (codes "denial") ++ denied_value reply

-- ---- chains

-- the tag of a key (RFC 4034, appendix B); an rdata that is too short for one has none
abbrev pub tag_value : List ℕ → List ℕ
tag_value key = number_or_null (key_tag key)

unfoldable pub tag_field : List ℕ → List ℕ
tag_field key = named (codes "tag") ++ tag_value key

unfoldable pub tags_field : List (List ℕ) → List ℕ
tags_field keys = named (codes "tags") ++ listed tag_value keys

-- the links that show the keys of a set
unfoldable pub key_links_field : List ℕ → List ℕ
key_links_field links = named (codes "key_links") ++ listed decimal links

-- what kind of link it is, and its owner
unfoldable pub link_fields : List ℕ → Labels → List ℕ
link_fields kind owner = string_field (codes "link") kind ++ (44 ∷ string_field (codes "owner") (printed owner))

-- a link, with the numbers of those that it rests on
abbrev pub link_object : LinkValue → List ℕ
link_object (Anchored owner class key) = 123 ∷ (link_fields (codes "anchored") owner ++ (44 ∷ (tag_field key ++ 125 ∷ [])))
link_object (Matched owner class key ds_link ds) =
    123 ∷ (link_fields (codes "matched") owner
    ++ (44 ∷ (tag_field key ++ (44 ∷ (number_field (codes "ds_link") ds_link ++ 125 ∷ [])))))
link_object (KeySet owner class keys links) =
    123 ∷ (link_fields (codes "keyset") owner ++ (44 ∷ (tags_field keys ++ (44 ∷ (key_links_field links ++ 125 ∷ [])))))
link_object (Signed owner class rtype rdatas sig key_link key) =
    123 ∷ (link_fields (codes "signed") owner
    ++ (44 ∷ (type_field rtype ++ (44 ∷ (tag_field key ++ (44 ∷ (number_field (codes "key_link") key_link ++ 125 ∷ [])))))))

unfoldable pub links_field : List LinkValue → List ℕ
links_field links = named (codes "links") ++ listed link_object links

unfoldable pub chain_value : ChainValue → List ℕ
chain_value chain = 123 ∷ (string_field (codes "section") (section_word chain.section) ++ (44 ∷ (links_field chain.links ++ 125 ∷ [])))

unfoldable pub chains_field : List ChainValue → List ℕ
chains_field chains = named (codes "chains") ++ listed chain_value chains

-- ---- what was asked

unfoldable pub code_field : Option ℕ → List ℕ
code_field code = named (codes "code") ++ number_or_null code

-- what the line of a fault says behind its first word, without the line's end
unfoldable pub words_in : List ℕ → List ℕ
words_in line = if nat_lt (length line) 7 then [] else between 6 (length line - 1) line

-- an error by the words of a report's line; that memory ran out has no line there
abbrev pub fault_words : ErrorValue → List ℕ
fault_words seen.NoMemory = codes "memory"
fault_words error = words_in (fault_text error)

-- what a query was answered: a code, or a fault
unfoldable pub heard_field : Reply → List ℕ
heard_field (Ok response) = code_field (Some response.message.response_code)
heard_field (Err error) = string_field (codes "fault") (fault_words error)

-- how long a query took, and what it was answered
unfoldable pub outcome_fields : Reply → ℕ → List ℕ
outcome_fields reply elapsed = number_field (codes "milliseconds") elapsed ++ (44 ∷ heard_field reply)

-- the same behind what was asked
unfoldable pub note_fields : Question → Reply → ℕ → List ℕ
note_fields q reply elapsed = question_fields q.owner q.rtype ++ (44 ∷ outcome_fields reply elapsed)

unfoldable pub note_value : NoteValue → List ℕ
note_value a = 123 ∷ (note_fields a.question a.reply a.elapsed ++ 125 ∷ [])

unfoldable pub trail_field : List NoteValue → List ℕ
trail_field notes = named (codes "trail") ++ listed note_value notes

-- ---- the answer

-- the code, the records of each section and the chains; without a response the code is `null`, and there are none of these
unfoldable pub response_fields : Option ResponseValue → List ℕ
response_fields prelude.None = code_field prelude.None
response_fields (Some response) =
    code_field (Some response.message.response_code) ++ (44 ∷ (sections_fields response.message ++ (44 ∷ chains_field response.chains)))

-- a question, the status that it ends with, what is written of it for people, what a lookup came to, and the queries that were sent
pub record AnswerValue : Type 0 where
  pub question : Question
  pub status : ℕ
  pub text : List ℕ
  pub reply : Reply
  pub notes : List NoteValue

-- what was asked for, the status, and the text for people
unfoldable pub front_fields : AnswerValue → List ℕ
front_fields a =
    question_fields a.question.owner a.question.rtype
    ++ (44 ∷ (number_field (codes "status") a.status ++ (44 ∷ string_field (codes "text") a.text)))

-- what is denied, and the response, be it given or refused
unfoldable pub reply_fields : Reply → List ℕ
reply_fields reply = denial_field reply ++ (44 ∷ response_fields (told_answer reply))

-- one object on a line of its own
unfoldable pub answer_json : AnswerValue → List ℕ
answer_json a = 123 ∷ (front_fields a ++ (44 ∷ (reply_fields a.reply ++ (44 ∷ (trail_field a.notes ++ 125 ∷ 10 ∷ [])))))
