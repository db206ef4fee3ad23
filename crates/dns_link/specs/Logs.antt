-- For private functions only: the calls of an object in memory, which tells none once memory lacked for one.
use Rattle.std.specs.Prelude.{◌≡◌, Bool, true, false, ⊤, List, Option, None, Some}
use Rattle.dns_link.specs.Calls.{NetCalls}
use Rattle.dns_link.specs.declared.net_call.NetCall.{NetCall}

-- the calls, where none is missing
abbrev pub log_of : Bool → NetCalls → Option NetCalls
log_of true calls = Some calls
log_of false calls = None
