-- What a session's upstream replies (RFC 1035, 4.1.1; RFC 2308, 2).
use Rattle.std.specs.Prelude.{[], Option, Result, Ok, Err}
use Rattle.std.specs.List.{find}
use Rattle.dns_model.specs.declared.denial.Denial.TheVariants as denied
use Rattle.dns_model.specs.Records.{Question, MessageValue, question_eq}
use Rattle.dns_model.specs.SoundAnswers.{Told, ResponseValue}
use Rattle.dns_handle.specs.declared.error.ProtoError.TheVariants.{Decode}
use Rattle.dns_handle.specs.declared.io_kind.IoKind.TheVariants.{Other}
use Rattle.dns_handle.specs.Errors.{Reply, ErrorValue, DnsErrorValue, Busy, Dns, Proto, Io, Timeout}
use Rattle.dns_handle.specs.Responses.{from_response}
use Rattle.dns_validation.specs.Received.{received_message, received}
use Rattle.dns_session.specs.declared.reply.ReplyFault.{ReplyFault}
use Rattle.dns_session.specs.declared.reply.ReplyFault.TheVariants as lacking
use Rattle.dns_session.specs.SessionValue.{ReplyValue, ReplyKindValue, Message, Empty, Fault, SessionValue}
use Rattle.std.specs.Option.{option_map_or}

-- a message as a response
abbrev pub response_with : MessageValue → ResponseValue
response_with message = record { message = message; chains = []; denial = denied.None; trail = [] }

-- a response, or what DNS itself answers in its place
abbrev pub answer_from : Result ResponseValue DnsErrorValue → Reply
answer_from (Ok response) = Ok response
answer_from (Err error) = Err (Dns error)

-- what is answered where no message comes
abbrev pub fault_from : ReplyFault → ErrorValue
fault_from lacking.Timeout = Timeout
fault_from lacking.Io = Io Other
fault_from lacking.Busy = Busy

-- what an upstream answers: a message; what a message tells, be it that its server failed or that there are no records; the
-- fault of bytes that are no message; or a fault
abbrev pub reply_from : ReplyKindValue → Reply
reply_from (Message (Ok message)) = Ok (response_with message)
reply_from (Message (Err error)) = Err (Proto (Decode error))
reply_from (Empty (Ok message)) = answer_from (from_response (response_with message))
reply_from (Empty (Err error)) = Err (Proto (Decode error))
reply_from (Fault fault) = Err (fault_from fault)

-- a question and what is answered
abbrev pub recorded : ReplyValue → Question × Reply
recorded reply = (reply.question, reply_from reply.kind)

-- what the upstream answers to the query: the first reply to it; without one nothing comes in time
abbrev pub session_told : SessionValue → Reply
session_told s =
    option_map_or (λ reply. reply_from reply.kind) (find (λ reply. question_eq reply.question s.query) s.replies) (Err Timeout)

-- the message of that
abbrev pub session_message : SessionValue → Option MessageValue
session_message s = received_message (session_told s)

-- and the records of the message
abbrev pub session_records : SessionValue → Option Told
session_records s = received (session_told s)
