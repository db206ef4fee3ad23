use Rattle.std.proofs.Common.{◌≡◌, ◌-◌, ◌≤◌, map, vec_len}
use Rattle.dns_forward_run.specs.Retired.{AreNew, met_by}
use Rattle.dns_forward_run.specs.Settings.{AreSilent, carried_by}
use Rattle.dns_forward_run.proofs.opening.accept_ports.Given as goal

-- the ports so far weren't used, and the listener counted nothing
abbrev pub invariant-ports : goal.invariant-ports
invariant-ports g l =
    AreNew (map (λ p. met_by g.N.Port.Port p) l.ports.items)
    × AreSilent (map (λ p. carried_by g.N.Port.Port p) l.ports.items)
    × (g.N.Listener.told l.listen ≡ g.N.Listener.told l.fn.listen)
    × (g.N.Listener.counts l.listen ≡ g.N.Listener.counts l.fn.listen)
    × (vec_len l.ports ≤ l.most)

abbrev pub decreases-ports : goal.decreases-ports
decreases-ports g l = l.most - vec_len l.ports
