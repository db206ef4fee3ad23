use Rattle.std.proofs.Common.{ap, ◌∙◌}
use Rattle.dns_marking.specs.Timing.{set_ttl}
use Rattle.dns_marking.proofs.TimeLemmas.{ttls_more}
use Rattle.dns_marking.proofs.marking.set_ttls.Goals as goal

pub loop-set-preserved : goal.loop-set-preserved
loop-set-preserved c =
    ttls_more c.args.now c.args.sets.now c.loop-set.ttls.items c.push.new.self.items c.loop-set.set-index c.set-item.result
    c.set_ttl-ttl.result
    c.loop-set-test.true c.set-item.is c.loop-set.invariant (c.set_ttl-ttl.ensures ∙ ap (λ s. set_ttl c.args.now s.judged) c.set.view_is)
    c.in_ok-push.ensures.items
