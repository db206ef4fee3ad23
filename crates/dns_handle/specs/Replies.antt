-- What contracts see of an error and of a reply.
use Rattle.std.specs.Prelude.{Result, Ok, Err}
use Rattle.dns_model.specs.SoundAnswers.{ResponseValue}
use Rattle.dns_handle.specs.Errors as seen
use Rattle.dns_handle.specs.Errors.{DnsErrorValue, ErrorValue, Reply}
use Rattle.dns_handle.specs.declared.error.DnsError.{DnsError}
use Rattle.dns_handle.specs.declared.error.DnsError.TheVariants.{ResponseCode, NoRecordsFound, Nsec, DnssecBogus}
use Rattle.dns_handle.specs.declared.error.NetError.{NetError}
use Rattle.dns_handle.specs.declared.error.NetError.TheVariants.{Busy, Dns, Message, Msg, NoConnections, Proto, Io, Timeout, QueryCaseMismatch, ForeignClassRecord, Truncated, NoMemory}

-- a code as its number, a box as its content
abbrev pub dns_error_of : DnsError → DnsErrorValue
dns_error_of (ResponseCode code) = seen.ResponseCode code.0
dns_error_of (NoRecordsFound missing) = seen.NoRecordsFound missing
dns_error_of (Nsec query response proof) = seen.Nsec query response.value proof
dns_error_of DnssecBogus = seen.DnssecBogus

abbrev pub error_of : NetError → ErrorValue
error_of Busy = seen.Busy
error_of (Dns error) = seen.Dns (dns_error_of error)
error_of (Message notice) = seen.Message notice
error_of (Msg text) = seen.Msg text
error_of NoConnections = seen.NoConnections
error_of (Proto error) = seen.Proto error
error_of (Io kind) = seen.Io kind
error_of Timeout = seen.Timeout
error_of QueryCaseMismatch = seen.QueryCaseMismatch
error_of (ForeignClassRecord owner class rtype) = seen.ForeignClassRecord owner class.0 rtype.0
error_of Truncated = seen.Truncated
error_of NoMemory = seen.NoMemory

abbrev pub reply_of : Result ResponseValue NetError → Reply
reply_of (Ok response) = Ok response
reply_of (Err error) = Err (error_of error)

-- a response, or what DNS itself answers in its place
abbrev pub response_of : Result ResponseValue DnsError → Result ResponseValue DnsErrorValue
response_of (Ok response) = Ok response
response_of (Err error) = Err (dns_error_of error)
