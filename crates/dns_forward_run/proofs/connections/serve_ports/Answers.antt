use Rattle.std.proofs.Common.{◌∙◌, arith}
use Rattle.dns_forward_run.specs.Retired.{met_by}
use Rattle.dns_forward_run.specs.Settings.{carried_by}
use Rattle.dns_forward_run.proofs.JudgedLemmas.{seated_silent}
use Rattle.dns_forward_run.proofs.RetiredLemmas.{seated_many, seated_new}
use Rattle.dns_forward_run.proofs.connections.serve_ports.Goals as goal

pub serve_and_retire-requires-clause-some : goal.serve_and_retire-requires-clause-some
serve_and_retire-requires-clause-some g c κs within =
    omega (
      arith,
      seated_many (λ s. s.port) c.in_ok-seats.seats.items c.args.ports.items c.in_ok-seats.ensures.ports,
      c.requires.some,
    )

pub serve_and_retire-requires-clause-unused : goal.serve_and_retire-requires-clause-unused
serve_and_retire-requires-clause-unused g c κs within =
    seated_new (λ s. s.port) (λ p. met_by g.N.Port.Port p) c.in_ok-seats.seats.items c.args.ports.items
    c.in_ok-seats.ensures.ports c.requires.unused

pub returns-clause-len : goal.returns-clause-len
returns-clause-len g c =
    c.in_ok-lines.ensures.len
    ∙ seated_many (λ s. s.port) c.in_ok-seats.seats.items c.args.ports.items c.in_ok-seats.ensures.ports

pub serve_and_retire-requires-clause-silent : goal.serve_and_retire-requires-clause-silent
serve_and_retire-requires-clause-silent g c κs within =
    seated_silent (λ s. s.port) (λ p. carried_by g.N.Port.Port p) c.in_ok-seats.seats.items c.args.ports.items
    c.in_ok-seats.ensures.ports c.requires.silent

pub returns-clause-answered : goal.returns-clause-answered
returns-clause-answered g c = c.in_ok-lines.ensures.answered _ c.in_ok-seats.ensures.judging
