-- Requests, as a forwarder takes them (RFC 1035, 4.1.1; RFC 6891, 6.1.3).
use Rattle.std.specs.Prelude.{ℕ, Bool, true, false, not, ◌==◌, ◌||◌, nat_lt, List, [], ◌∷◌, length, slice_index, Option, None, Some, Result, Ok, Err, if◌then◌else◌}
use Rattle.dns_model.specs.Bytes.{has_flag, u16_at}
use Rattle.dns_model.specs.Types.{class_in}
use Rattle.dns_model.specs.Records.{Question, EdnsValue, MessageValue}
use Rattle.dns_message.specs.MessageAt.{message_at}
use Rattle.dns_message.specs.declared.decode_error.DecodeError.{DecodeError}
use Rattle.dns_forwarded.specs.declared.received.Received.{Received}
use Rattle.dns_forwarded.specs.declared.received.Received.TheVariants.{Ignored, Unreadable, Read}

-- codes of replies (RFC 1035, 4.1.1; RFC 6891, 9)
abbrev pub code_form_err : ℕ
code_form_err = 1

abbrev pub code_serv_fail : ℕ
code_serv_fail = 2

abbrev pub code_not_imp : ℕ
code_not_imp = 4

abbrev pub code_bad_vers : ℕ
code_bad_vers = 16

-- types of questions for transfers (RFC 1995, 3; RFC 5936, 2.1)
abbrev pub type_ixfr : ℕ
type_ixfr = 251

abbrev pub type_axfr : ℕ
type_axfr = 252

-- bytes with this id that are a message, or none
abbrev pub read_with : ℕ → Result MessageValue DecodeError → Received
read_with id (Ok message) = Read message
read_with id (Err error) = Unreadable id

-- what came: fewer bytes than a header's or a response, which aren't answered, no message, or a message
unfoldable pub received_of : List ℕ → Received
received_of bytes =
    if nat_lt (length bytes) 12 || has_flag (slice_index bytes 2) 0x80 then Ignored else read_with (u16_at bytes 0) (message_at bytes)

-- a version of EDNS after 0
abbrev pub is_later_version : Option EdnsValue → Bool
is_later_version None = false
is_later_version (Some edns) = nat_lt 0 edns.version

-- a question of another class than IN, or for a transfer
abbrev pub is_unasked : Question → Bool
is_unasked q = not (q.class == class_in) || ((q.rtype == type_ixfr) || (q.rtype == type_axfr))

-- the question that is looked up for a request, or the code by which it is refused: by whether its opcode is Query, its questions, and
-- whether its version of EDNS is after 0
abbrev pub course_by : Bool → List Question → Bool → Result Question ℕ
course_by false queries later = Err code_not_imp
course_by true [] later = Err code_form_err
course_by true (q ∷ r ∷ more) later = Err code_form_err
course_by true (q ∷ []) true = Err code_bad_vers
course_by true (q ∷ []) false = if is_unasked q then Err code_not_imp else Ok q

abbrev pub course_of : MessageValue → Result Question ℕ
course_of request = course_by (request.op_code == 0) request.queries (is_later_version request.edns)

-- the question that is looked up for what came
abbrev pub query_by : Result Question ℕ → Option Question
query_by (Ok q) = Some q
query_by (Err code) = None

abbrev pub query_of : Received → Option Question
query_of Ignored = None
query_of (Unreadable id) = None
query_of (Read request) = query_by (course_of request)
