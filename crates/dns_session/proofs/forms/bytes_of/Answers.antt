use Rattle.std.specs.Option.{option_copied}
use Rattle.dns_session.proofs.ByteWords.{next_byte, no_byte, all_bytes}
use Rattle.dns_session.proofs.forms.bytes_of.Goals as goal

pub returns-in-None : goal.returns-in-None
returns-in-None c =
    no_byte c.loop-left.all.items c.in-Some.text.now c.next_word.result.0.now (option_copied c.next_word.result.1) _
    (rw c.in-Some.is at c.loop-left.invariant) c.next_word.ensures.words c.in-None.ensures

pub loop-left-preserved : goal.loop-left-preserved
loop-left-preserved c =
    rw c.in_ok-push-in-Some-u8_in.ensures.items
    (next_byte c.loop-left.all.items c.in-Some.text.now c.next_word.result.0.now (option_copied c.next_word.result.1) _ _
    (rw c.in-Some.is at c.loop-left.invariant) c.next_word.ensures.words c.in-Some-u8_in.ensures)

pub returns : goal.returns
returns c = all_bytes _ _ (rw c.in_default.is at c.loop-left.invariant)
