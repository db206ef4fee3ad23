use Rattle.std.proofs.Common.{ap, sym, ◌∙◌}
use Rattle.std.proofs.NetLemmas.Theorems.{IsSocketText_unique}
use Rattle.std.specs.Net.Socket.{socket_port}
use Rattle.dns_query_words.proofs.servers.with_port_in.Goals as goal

-- a text spells one address at most, and its port is 0
pub returns-then-port-eq0-clause-none : goal.returns-then-port-eq0-clause-none
returns-then-port-eq0-clause-none c = λ server h.
    h.port
    (ap socket_port (IsSocketText_unique c.args.text.now server c.in-Ok.server h.both c.in-Ok.ensures)
    ∙ sym c.port.ensures ∙ c.if-port-eq0.true)
