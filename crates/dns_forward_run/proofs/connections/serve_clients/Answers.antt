use Rattle.std.proofs.Common.{subst}
use Rattle.std.specs.Prelude.{IfOk}
use Rattle.dns_handle.specs.declared.protocol.Protocol.TheVariants.{Tcp}
use Rattle.dns_forward_run.specs.Judging.{TellsAnswered}
use Rattle.dns_forward_run.specs.Settings.{judging_in}
use Rattle.dns_forward_run.proofs.JudgedLemmas.{when_told}
use Rattle.dns_forward_run.proofs.ServingLemmas.{accepted_told}
use Rattle.dns_forward_run.proofs.connections.serve_clients.Goals as goal

pub returns-in-Ok-clause-served : goal.returns-in-Ok-clause-served
returns-in-Ok-clause-served g c =
    accepted_told g.N.Port.Port c.args.connections c.args.setting.now.service.count _ _ _ c.in-Ok.ports.items
    c.serve_by_list-lines.result c.ending_of.result c.in-Ok.ensures.opens c.ending_of.ensures.told
    c.serve_by_list-lines.ensures.len c.serve_by_list-lines.ensures.back

pub returns-in-Ok-clause-answered : goal.returns-in-Ok-clause-answered
returns-in-Ok-clause-answered g c =
    when_told _ c.serve_by_list-lines.result c.ending_of.result c.ending_of.ensures.told
    (subst (λ told. IfOk c.serve_by_list-lines.result (λ lines.
    TellsAnswered (judging_in c.args.setting.now.trust Tcp) told
    (g.N.Listener.told c.serve_by_list-lines.new.listen))) c.in-Ok.ensures.told c.serve_by_list-lines.ensures.answered)
