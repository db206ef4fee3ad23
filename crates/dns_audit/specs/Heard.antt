-- For private functions of this crate only: what contracts see of the line of a reply.
use Rattle.dns_audit.specs.declared.steps.Got.{Got}
use Rattle.dns_audit.specs.declared.steps.Got.TheVariants as got
use Rattle.dns_audit.specs.ReportValue.{GotValue, Code, NoReply}

abbrev pub got_value : Got → GotValue
got_value (got.Code code empty) = Code code.0 empty
got_value got.NoReply = NoReply
