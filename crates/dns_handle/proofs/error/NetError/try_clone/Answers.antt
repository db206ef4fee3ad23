use Rattle.std.proofs.Common.{sym, ap}
use Rattle.dns_handle.specs.Replies.{error_of}
use Rattle.dns_handle.proofs.error.NetError.try_clone.Goals as goal

pub returns-in-Busy : goal.returns-in-Busy
returns-in-Busy c = ap error_of (sym c.in-Busy.is)

pub returns-in-Message : goal.returns-in-Message
returns-in-Message c = ap error_of (sym c.in-Message.is)

pub returns-in-NoConnections : goal.returns-in-NoConnections
returns-in-NoConnections c = ap error_of (sym c.in-NoConnections.is)

pub returns-in-Proto : goal.returns-in-Proto
returns-in-Proto c = ap error_of (sym c.in-Proto.is)

pub returns-in-Io : goal.returns-in-Io
returns-in-Io c = ap error_of (sym c.in-Io.is)

pub returns-in-Timeout : goal.returns-in-Timeout
returns-in-Timeout c = ap error_of (sym c.in-Timeout.is)

pub returns-in-QueryCaseMismatch : goal.returns-in-QueryCaseMismatch
returns-in-QueryCaseMismatch c = ap error_of (sym c.in-QueryCaseMismatch.is)

pub returns-in-Truncated : goal.returns-in-Truncated
returns-in-Truncated c = ap error_of (sym c.in-Truncated.is)

pub returns-in-NoMemory : goal.returns-in-NoMemory
returns-in-NoMemory c = ap error_of (sym c.in-NoMemory.is)
