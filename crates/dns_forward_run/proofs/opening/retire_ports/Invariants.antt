use Rattle.std.proofs.Common.{◌≡◌, map}
use Rattle.dns_forward_run.specs.Retired.{met_by, with_ports}
use Rattle.dns_forward_run.proofs.opening.retire_ports.Given as goal

-- the ports so far are back
abbrev pub invariant-loop-port : goal.invariant-loop-port
invariant-loop-port g l =
    g.N.Listener.counts l.listen
    ≡ with_ports (g.N.Listener.counts l.fn.listen) (map (λ p. met_by g.N.Port.Port p) l.yielded)
