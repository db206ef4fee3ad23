use Rattle.std.specs.Option.{option_copied}
use Rattle.dns_session.specs.Lines.{words_left}
use Rattle.dns_audit.proofs.EachLemmas.{next_numbered, no_numbered, all_numbered, numbered_shorter}
use Rattle.dns_audit.proofs.link_lines.numbered_in.Goals as goal

pub loop-left-smaller : goal.loop-left-smaller
loop-left-smaller c =
    rw c.in-Some.is
    (numbered_shorter c.in-Some.text.now c.next_word.result.0.now (option_copied c.next_word.result.1)
    (words_left (option_copied c.in-Some-2.after)) c.in-Some-2.link c.in-Some-2.key c.next_word.ensures.words
    (rw c.in-Some-2.is at c.in_ok-link.ensures))

pub loop-left-preserved : goal.loop-left-preserved
loop-left-preserved c =
    rw (c.in_ok-push-in-Some-2.ensures.items, c.in_ok-push-in-Some-2-2.ensures.items)
    (next_numbered c.loop-left.links.items c.loop-left.keys.items c.in-Some.text.now c.next_word.result.0.now
    (option_copied c.next_word.result.1) (words_left (option_copied c.in-Some-2.after)) _ c.in-Some-2.link
    c.in-Some-2.key (rw c.in-Some.is at c.loop-left.invariant) c.next_word.ensures.words
    (rw c.in-Some-2.is at c.in_ok-link.ensures))

pub returns-in-None : goal.returns-in-None
returns-in-None c =
    no_numbered c.loop-left.links.items c.loop-left.keys.items c.in-Some.text.now c.next_word.result.0.now
    (option_copied c.next_word.result.1) _ (rw c.in-Some.is at c.loop-left.invariant) c.next_word.ensures.words
    (rw c.in-None.is at c.in_ok-link.ensures)

pub returns : goal.returns
returns c = all_numbered _ _ _ (rw c.in_default.is at c.loop-left.invariant)
