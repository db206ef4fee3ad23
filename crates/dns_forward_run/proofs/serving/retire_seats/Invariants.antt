use Rattle.std.proofs.Common.{◌≡◌, map, Some}
use Rattle.std.specs.Prelude.{IfOk}
use Rattle.dns_forward_run.specs.Retired.{with_ports}
use Rattle.dns_forward_run.specs.Steps.{lines_by, served_carried, served_met}
use Rattle.dns_listener.specs.Listening.{TellsPorts}
use Rattle.dns_forward_run.proofs.serving.retire_seats.Given as goal

-- the seats so far have their lines, and their ports are back
abbrev pub invariant-loop-one : goal.invariant-loop-one
invariant-loop-one g l =
    IfOk l.lines (λ lines. map Some lines.items ≡ lines_by l.yielded)
    × (g.N.Listener.counts l.listen
    ≡ with_ports (g.N.Listener.counts l.fn.listen) (served_met g.N.Port.Port l.yielded))
    × TellsPorts (g.N.Listener.told l.fn.listen) (served_carried g.N.Port.Port l.yielded) (g.N.Listener.told l.listen)
