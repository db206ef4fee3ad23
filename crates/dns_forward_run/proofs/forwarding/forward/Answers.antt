use Rattle.dns_forward_run.proofs.ForwardLemmas.{ending_prefix}
use Rattle.dns_forward_run.proofs.forwarding.forward.Goals as goal

pub returns-clause-prefix : goal.returns-clause-prefix
returns-clause-prefix g c =
    ending_prefix _ _ _ _ g.W.Sink.taken c.forward_bytes-ending.result.ending c.args.output.now
    c.write_ending.new.output c.forward_bytes-ending.ensures.comes c.write_ending.ensures.part
