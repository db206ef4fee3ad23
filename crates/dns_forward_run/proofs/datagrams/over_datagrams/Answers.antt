use Rattle.std.proofs.Common.{subst}
use Rattle.std.specs.Prelude.{IfOk}
use Rattle.dns_handle.specs.declared.protocol.Protocol.TheVariants.{Udp}
use Rattle.dns_forward_run.specs.Judging.{TellsAnswered}
use Rattle.dns_forward_run.specs.Settings.{judging_in}
use Rattle.dns_forward_run.proofs.JudgedLemmas.{when_told}
use Rattle.dns_forward_run.proofs.ServingLemmas.{dialer_kept, one_refused, one_serves}
use Rattle.dns_forward_run.proofs.datagrams.over_datagrams.Goals as goal

pub returns-in-Ok-clause-served : goal.returns-in-Ok-clause-served
returns-in-Ok-clause-served g c =
    one_serves _ c.args.setting.now.service c.args.dial c.args.listen.now c.serve_by_list-lines.new.listen
    c.serve_by_list-lines.result.dial c.serve_by_list-lines.result.lines c.ending_of.result c.requires.carried
    c.ending_of.ensures.told _ c.in-Ok.ensures.counts c.serve_by_list-lines.ensures.back
    c.serve_by_list-lines.ensures.dial

pub returns-in-Ok-clause-kept : goal.returns-in-Ok-clause-kept
returns-in-Ok-clause-kept g c =
    dialer_kept c.serve_by_list-lines.result.dial c.serve_by_list-lines.result.lines c.ending_of.result
    c.ending_of.ensures.told c.serve_by_list-lines.ensures.dial

pub returns-in-Err-clause-served : goal.returns-in-Err-clause-served
returns-in-Err-clause-served g c =
    one_refused _ c.args.setting.now.service c.args.dial c.args.listen.now _ c.requires.carried c.in-Err.ensures.counts

pub returns-in-Ok-clause-answered : goal.returns-in-Ok-clause-answered
returns-in-Ok-clause-answered g c =
    when_told _ c.serve_by_list-lines.result.lines c.ending_of.result c.ending_of.ensures.told
    (subst (λ told. IfOk c.serve_by_list-lines.result.lines (λ lines.
    TellsAnswered (judging_in c.args.setting.now.trust Udp) told
    (g.N.Listener.told c.serve_by_list-lines.new.listen))) c.in-Ok.ensures.told c.serve_by_list-lines.ensures.answered)
