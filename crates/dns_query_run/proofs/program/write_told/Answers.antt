use Rattle.std.proofs.Common.{refl, subst}
use Rattle.dns_query_run.specs.Endings.{Part, Says, Whole, sink_met}
use Rattle.dns_query_run.proofs.program.write_told.Goals as goal

pub returns-in-Ok-clause-ends : goal.returns-in-Ok-clause-ends
returns-in-Ok-clause-ends g c =
    Whole refl c.in-Ok.ensures.text c.in-Ok.ensures.saved
    (subst
    (λ text. Says
    (sink_met g.Z.Sink.taken g.Z.Sink.faults g.Z.Sink.takes_memory c.args.errors.now c.say.new.errors) text)
    c.deref.ensures.value c.say.ensures.says)

pub returns-in-Err-clause-ends : goal.returns-in-Err-clause-ends
returns-in-Err-clause-ends g c =
    Part c.in-Err.stop c.status.ensures.status c.in-Err.ensures.cut
    (record {
      mid = c.say.new.errors;
      begins =
          subst
          (λ text. Says
          (sink_met g.Z.Sink.taken g.Z.Sink.faults g.Z.Sink.takes_memory c.args.errors.now c.say.new.errors) text)
          c.deref.ensures.value c.say.ensures.says;
      ends =
          subst
          (λ text. Says
          (sink_met g.Z.Sink.taken g.Z.Sink.faults g.Z.Sink.takes_memory c.say.new.errors c.say-in-Err.new.errors) text)
          c.complaint.ensures c.say-in-Err.ensures.says;
    })
