use Rattle.std.proofs.Common.{sym, ap}
use Rattle.dns_handle.specs.Replies.{dns_error_of}
use Rattle.dns_handle.proofs.error.DnsError.try_clone.Goals as goal

pub returns-in-ResponseCode : goal.returns-in-ResponseCode
returns-in-ResponseCode c = ap dns_error_of (sym c.in-ResponseCode.is)

pub returns-in-DnssecBogus : goal.returns-in-DnssecBogus
returns-in-DnssecBogus c = ap dns_error_of (sym c.in-DnssecBogus.is)
