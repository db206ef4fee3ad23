use Rattle.std.proofs.Common.{◌≡◌, ◌≤◌, ◌∷◌, [], ◌++◌, List, ℕ, Option, Err, length, refl, sym, ap, ◌∙◌, subst, arith}
use Rattle.dns_handle.specs.Errors.{NoConnections}
use Rattle.dns_journal.specs.Entries.{Entry, Send, Arrive, Pop, drawn_of, reply_of}
use Rattle.dns_journal.specs.Limits.{request_len, kept_in, was_closed}
use Rattle.turns.specs.Turns.{Held}
use Rattle.dns_journal.proofs.ReplayLemmas.{pop_replay}
use Rattle.dns_journal.proofs.ViewLemmas.{is_journal}
use Rattle.dns_journal.proofs.journaled_core.JournaledCore.pop_outbound.Goals as goal

pub invariant_of-self-2 : goal.invariant_of-self-2
invariant_of-self-2 c =
    pop_replay c.in_ok-message.message c.self.inside.core c.pop_outbound.new.self c.self.inside.entries.items
    c.push.new.self.items c.self.inside.bytes c.self.inside.entries.room c.push.new.self.room c.self.invariant
    c.in_ok-message.ensures.popped c.pop_outbound.ensures.kept c.pop_outbound.ensures.brought c.push.ensures.room
    c.push.ensures.items

pub returns-clause-journal : goal.returns-clause-journal
returns-clause-journal c =
    is_journal c.pop_outbound.new.self.machine.settings c.push.new.self.items c.pop_outbound.new.self
    c.self.inside.bytes c.push.new.self.room
    (pop_replay c.in_ok-message.message c.self.inside.core c.pop_outbound.new.self c.self.inside.entries.items
    c.push.new.self.items c.self.inside.bytes c.self.inside.entries.room c.push.new.self.room c.self.invariant
    c.in_ok-message.ensures.popped c.pop_outbound.ensures.kept c.pop_outbound.ensures.brought c.push.ensures.room
    c.push.ensures.items)
