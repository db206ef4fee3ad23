use Rattle.dns_forward_run.specs.Retired.{met_by}
use Rattle.dns_forward_run.specs.Steps.{line_by}
use Rattle.dns_forward_run.proofs.JudgedLemmas.{one_answered}
use Rattle.dns_forward_run.proofs.ServingLemmas.{one_line}
use Rattle.dns_forward_run.proofs.datagrams.serve_port.Goals as goal

pub returns-in-Ok-clause-back : goal.returns-in-Ok-clause-back
returns-in-Ok-clause-back g c =
    one_line c.args.setting.now.service.count (λ s. line_by s) (λ s. met_by g.N.Port.Port s.seat.port) c.in-Ok.served
    c.new.result c.retire_seat-line.result.0 c.with_line.result c.new.ensures.items c.with_line.ensures
    c.retire_seat-line.ensures.line c.in-Ok.ensures.line _ _ c.retire_seat-line.ensures.back

pub returns-in-Ok-clause-answered : goal.returns-in-Ok-clause-answered
returns-in-Ok-clause-answered g c =
    one_answered _ _ c.with_line.result _ _ c.retire_seat-line.ensures.told c.in-Ok.ensures.answered
