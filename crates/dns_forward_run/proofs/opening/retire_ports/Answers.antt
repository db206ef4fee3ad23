use Rattle.std.proofs.Common.{◌∙◌, ap, sym}
use Rattle.dns_listener.specs.Listening.{with_port}
use Rattle.dns_forward_run.specs.Retired.{met_by}
use Rattle.dns_forward_run.proofs.RetiredLemmas.{back_more}
use Rattle.dns_forward_run.proofs.opening.retire_ports.Goals as goal

pub loop-port-preserved : goal.loop-port-preserved
loop-port-preserved g c =
    c.retire.ensures.counts
    ∙ (ap (λ counts. with_port counts (met_by g.N.Port.Port c.in-Some.port)) c.loop-port.invariant
    ∙ sym (back_more (λ p. met_by g.N.Port.Port p) _ c.loop-port.yielded c.in-Some.port))
