use Rattle.dns_session.proofs.PieceLemmas.{single_long}
use Rattle.dns_session.proofs.words.single.Goals as goal

pub returns-in-Some : goal.returns-in-Some
returns-in-Some c =
    rw c.in_ok-rest.was
    (single_long c.in_ok-rest.field-0.now c.next_word.result.0.now c.in-Some.field-0.now
    (rw c.in-Some.is at c.next_word.ensures.words))
