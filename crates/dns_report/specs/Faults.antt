-- The line that tells why there is no answer.
use Rattle.std.specs.Prelude.{ℕ, List, [], ◌∷◌, codes}
use Rattle.std.specs.Fmt.{decimal}
use Rattle.dns_model.specs.NameText.{printed}
use Rattle.dns_message.specs.declared.decode_error.DecodeKind.{DecodeKind}
use Rattle.dns_message.specs.declared.decode_error.DecodeKind.TheVariants as decode
use Rattle.dns_handle.specs.declared.io_kind.IoKind.{IoKind}
use Rattle.dns_handle.specs.declared.io_kind.IoKind.TheVariants.{PermissionDenied, ConnectionRefused, ConnectionReset, ConnectionAborted, NotConnected, AddrInUse, AddrNotAvailable, BrokenPipe, InvalidData, TimedOut, UnexpectedEof, RequestTooLong, Other}
use Rattle.dns_handle.specs.declared.error.ProtoError.{ProtoError}
use Rattle.dns_handle.specs.declared.error.ProtoError.TheVariants.{Decode, TooLong}
use Rattle.dns_handle.specs.Notices.{notice_text}
use Rattle.dns_handle.specs.Errors.{DnsErrorValue, ResponseCode, NoRecordsFound, Nsec, DnssecBogus, ErrorValue, Busy, Dns, Message, Msg, NoConnections, Proto, Io, Timeout, QueryCaseMismatch, ForeignClassRecord, Truncated, NoMemory}
use Rattle.dns_record.specs.Words.{type_word, class_word}
use Rattle.dns_text.specs.Lines.{Words, line}
use Rattle.dns_report.specs.LineWords.{mark_word}

-- the word of a kind is its name
abbrev pub io_word : IoKind → List ℕ
io_word PermissionDenied = codes "PermissionDenied"
io_word ConnectionRefused = codes "ConnectionRefused"
io_word ConnectionReset = codes "ConnectionReset"
io_word ConnectionAborted = codes "ConnectionAborted"
io_word NotConnected = codes "NotConnected"
io_word AddrInUse = codes "AddrInUse"
io_word AddrNotAvailable = codes "AddrNotAvailable"
io_word BrokenPipe = codes "BrokenPipe"
io_word InvalidData = codes "InvalidData"
io_word TimedOut = codes "TimedOut"
io_word UnexpectedEof = codes "UnexpectedEof"
io_word RequestTooLong = codes "RequestTooLong"
io_word Other = codes "Other"

abbrev pub decode_word : DecodeKind → List ℕ
decode_word decode.Short = codes "Short"
decode_word decode.BadName = codes "BadName"
decode_word decode.BadRdata = codes "BadRdata"
decode_word decode.BadOpt = codes "BadOpt"
decode_word decode.Trailing = codes "Trailing"
decode_word decode.NoMemory = codes "NoMemory"

-- what is wrong with bytes, and where
abbrev pub proto_words : ProtoError → Words
proto_words (Decode error) = decode_word error.kind ∷ decimal error.offset ∷ []
proto_words TooLong = codes "TooLong" ∷ []

-- what DNS answers; that there are no records is said by a message, since it is no answer of a lookup
abbrev pub dns_words : DnsErrorValue → Words
dns_words (ResponseCode code) = codes "code" ∷ decimal code ∷ []
dns_words (NoRecordsFound missing) = codes "message" ∷ codes "no records found" ∷ []
dns_words (Nsec query response proof) = codes "nsec" ∷ mark_word proof ∷ []
dns_words DnssecBogus = codes "bogus" ∷ []

-- a fault's line
abbrev pub line_of_fault : Words → List ℕ
line_of_fault words = line (codes "fault") words

-- the line of an error; that memory ran out has none
abbrev pub fault_text : ErrorValue → List ℕ
fault_text Busy = line_of_fault (codes "busy" ∷ [])
fault_text (Dns error) = line_of_fault (dns_words error)
fault_text (Message notice) = line_of_fault (codes "message" ∷ notice_text notice ∷ [])
fault_text (Msg text) = line_of_fault (codes "message" ∷ text ∷ [])
fault_text NoConnections = line_of_fault (codes "no-connections" ∷ [])
fault_text (Proto error) = line_of_fault (codes "proto" ∷ proto_words error)
fault_text (Io kind) = line_of_fault (codes "io" ∷ io_word kind ∷ [])
fault_text Timeout = line_of_fault (codes "timeout" ∷ [])
fault_text QueryCaseMismatch = line_of_fault (codes "case" ∷ [])
fault_text (ForeignClassRecord owner class rtype) =
    line_of_fault (codes "class" ∷ printed owner ∷ class_word class ∷ type_word rtype ∷ [])
fault_text Truncated = line_of_fault (codes "truncated" ∷ [])
fault_text NoMemory = []
