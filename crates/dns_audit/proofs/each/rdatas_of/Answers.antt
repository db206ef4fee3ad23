use Rattle.std.proofs.Common.{sym, ◌∙◌}
use Rattle.std.specs.Option.{option_copied}
use Rattle.dns_audit.proofs.EachLemmas.{next_item, no_item, all_items}
use Rattle.dns_audit.proofs.each.rdatas_of.Goals as goal

pub returns-in-None : goal.returns-in-None
returns-in-None c =
    no_item _ c.loop-left.all.items c.in-Some.text.now c.next_word.result.0.now (option_copied c.next_word.result.1) _
    (rw c.in-Some.is at c.loop-left.invariant) c.next_word.ensures.words (sym c.in-None.is ∙ c.in_ok-rdata.ensures)

pub loop-left-preserved : goal.loop-left-preserved
loop-left-preserved c =
    rw c.in_ok-push-in-Some-2.ensures.items
    (next_item _ c.loop-left.all.items c.in-Some.text.now c.next_word.result.0.now (option_copied c.next_word.result.1)
    _ _ (rw c.in-Some.is at c.loop-left.invariant) c.next_word.ensures.words (sym c.in-Some-2.is
    ∙ c.in_ok-rdata.ensures))

pub returns : goal.returns
returns c = all_items _ _ _ (rw c.in_default.is at c.loop-left.invariant)
