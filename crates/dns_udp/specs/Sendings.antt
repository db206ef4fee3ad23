-- For private functions only: a request on its way.
use Rattle.std.specs.Prelude.{ℕ, Option}
use Rattle.dns_link.specs.Calls.{NetCalls}
use Rattle.dns_link.specs.declared.net_call.NetCall.TheVariants.{Send}
use Rattle.dns_udp.specs.declared.waiting.Sending.{Sending}
use Rattle.dns_udp.specs.Asks.{AskPlan, ask_plan}
use Rattle.dns_udp.specs.Requests.{AskedValue}

abbrev pub asked_by : Sending → AskedValue
asked_by sending = record { request = sending.request.now; server = sending.server; timeout = sending.timeout }

-- what it may ask: sockets by its binding, and its bytes to its server
abbrev pub plan_of : {G R : Type 0} → (G → Option NetCalls) → (R → ℕ → R → Type 0) → Sending → AskPlan G R
plan_of calls draw sending = ask_plan calls draw sending.binding.now (Send sending.bytes.now sending.server)
