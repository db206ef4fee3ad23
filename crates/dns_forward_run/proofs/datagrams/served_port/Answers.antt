use Rattle.std.proofs.Common.{subst}
use Rattle.std.specs.Prelude.{All}
use Rattle.dns_handle.specs.declared.protocol.Protocol.TheVariants.{Udp}
use Rattle.dns_forward_run.specs.Judging.{Judging}
use Rattle.dns_forward_run.specs.Settings.{judging_in, judging_of}
use Rattle.dns_forward_run.specs.Steps.{HasLine, WasAnswered}
use Rattle.dns_forward_run.proofs.JudgedLemmas.{alike_one}
use Rattle.dns_forward_run.proofs.LineLemmas.{last_in}
use Rattle.dns_forward_run.proofs.datagrams.served_port.Goals as goal

pub returns-clause-line : goal.returns-clause-line
returns-clause-line g c =
    last_in (λ s. HasLine g.P.Port c.args.setting.now.service.count s) c.pop.new.self.items c.in-Some.served
    (subst (λ all. All (λ s. HasLine g.P.Port c.args.setting.now.service.count s) all) c.in-Some.ensures.items
    c.in_ok-all.ensures.each)

pub returns-clause-answered : goal.returns-clause-answered
returns-clause-answered g c =
    let by : Judging = judging_in c.args.setting.now.trust Udp in
    last_in (λ s. WasAnswered g.P.Port by s) c.pop.new.self.items c.in-Some.served
    (subst (λ all. All (λ s. WasAnswered g.P.Port by s) all) c.in-Some.ensures.items
    (c.in_ok-all.ensures.answered by
    (alike_one by (λ s. judging_of s) _ _ _ c.new-seats.ensures.items c.in_ok-push.ensures.items
    c.in_ok-seat.ensures.judging)))
