use Rattle.std.proofs.Common.{◌∙◌, sym, ap, subst}
use Rattle.turns.specs.Turns.{Known, IsSound, given}
use Rattle.turns.proofs.Steps.{founds}
use Rattle.dns_multiplexer.specs.Draws.{CoreValue}
use Rattle.dns_multiplexer.specs.Machine.{Settings}
use Rattle.dns_journal.specs.Entries.{Entry}
use Rattle.dns_shared_exchange.specs.Tokens.{first_known}
use Rattle.dns_shared_exchange.proofs.TokenLemmas.{founder_sound, first_is}
use Rattle.dns_shared_exchange.proofs.shared_exchange.DnsExchange.from_stream.Goals as goal

pub ruled-requires-clause-rule : goal.ruled-requires-clause-rule
ruled-requires-clause-rule g c = founds

pub give_turn-requires-clause-sound : goal.give_turn-requires-clause-sound
give_turn-requires-clause-sound g c = subst (λ (k : Known Settings Entry). IsSound k) (sym c.in_ok-line.ensures.3) founder_sound

pub returns-clause-first : goal.returns-clause-first
returns-clause-first g c =
    c.give_turn.ensures.given ∙ ap (λ (k : Known Settings Entry). given k c.in_ok-core.core) c.in_ok-line.ensures.3
    ∙ first_is c.in_ok-core.core c.into_parts-core.result.0.machine.settings c.in_ok-core.ensures.new
    ∙ ap (λ (m : CoreValue). first_known m.settings) c.into_parts-core.ensures.core
