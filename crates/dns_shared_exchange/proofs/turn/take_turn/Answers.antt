use Rattle.std.proofs.Common.{sym, subst}
use Rattle.crossbeam_queue.specs.Passes.{view}
use Rattle.turns.specs.Turns.{Known, IsSound}
use Rattle.turns.proofs.Steps.{takes}
use Rattle.dns_multiplexer.specs.Machine.{Settings}
use Rattle.dns_journal.specs.Entries.{Entry}
use Rattle.dns_shared_exchange.proofs.TokenLemmas.{taken_sound}
use Rattle.dns_shared_exchange.proofs.turn.take_turn.Goals as goal

pub pop_as-requires-clause-rule : goal.pop_as-requires-clause-rule
pop_as-requires-clause-rule g c = (takes _ _, λ items views kept at. tt)

pub returns-in-Some-pop_as-clause-sound : goal.returns-in-Some-pop_as-clause-sound
returns-in-Some-pop_as-clause-sound g c =
    taken_sound (view c.loop.pass) (view c.pop_as.new.pass) c.in-Some-pop_as.core c.in-Some-pop_as.ensures.rule
    (subst (λ (k : Known Settings Entry). IsSound k) (sym c.loop.invariant.2) c.requires.sound)
