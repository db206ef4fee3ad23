use Rattle.dns_recorded.proofs.ReplyLemmas.{index_none}
use Rattle.dns_recorded.proofs.reply_list.ReplyList.new.Goals as goal

pub invariant_of-result : goal.invariant_of-result
invariant_of-result c = index_none c.new-2.result c.new.result.items c.new-2.ensures.empty c.new.ensures.items
