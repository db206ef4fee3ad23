use Rattle.std.proofs.Common.{◌∙◌, rules, sym}
use Rattle.dns_transfer.proofs.StreamLemmas.{transfer_after_item, transfer_within}
use Rattle.dns_transfer.proofs.transfer_stream.ClientStreamXfrStream.poll_next.Goals as goal

pub returns-in-Pending-clause-same : goal.returns-in-Pending-clause-same
returns-in-Pending-clause-same g c =
    transfer_within (g.S.Stream.yields c.args.self.now.stream) (g.S.Stream.yields c.poll_next.new.self)
    c.args.self.now.transfer c.in-Pending.ensures.same

pub returns-in-Ready-Some-clause-rest : goal.returns-in-Ready-Some-clause-rest
returns-in-Ready-Some-clause-rest g c =
    transfer_after_item (g.S.Stream.yields c.args.self.now.stream) (g.S.Stream.yields c.poll_next.new.self)
    c.args.self.now.transfer c.judged.new.transfer c.judged.result c.in-Ready-Some.item
    (sym c.is_ended.ensures ∙ c.if-is_ended.false) (search rules) (search rules) (search rules) (search rules)
