use Rattle.std.proofs.Common.{◌≡◌, ◌∷◌, [], ◌++◌, List, ℕ, Option, sym, ap, ◌∙◌, subst, arith}
use Rattle.std.proofs.lemmas.Result.{err_from_is_err_and}
use Rattle.dns_journal.specs.Entries.{Entry, Tick}
use Rattle.dns_journal.specs.Replays.{EntryListValue, IsReplay}
use Rattle.dns_multiplexer.specs.Draws.{CoreValue}
use Rattle.dns_multiplexer.specs.Brought.{TracedCore}
use Rattle.dns_journal.proofs.ReplayLemmas.{tick_replay}
use Rattle.dns_journal.proofs.ViewLemmas.{call_added, call_refused, is_journal}
use Rattle.dns_journal.proofs.journaled_core.JournaledCore.tick.Goals as goal

pub invariant_of-self-2 : goal.invariant_of-self-2
invariant_of-self-2 c =
    (tick_replay c.args.now_ms c.self.inside.core c.tick.new.self c.self.inside.entries.items c.push.new.self.items
    c.self.inside.bytes c.self.inside.entries.room c.make_room.new.entries.room c.push.new.self.room
    c.self.invariant c.tick.ensures.ticked c.tick.ensures.kept c.tick.ensures.brought c.in_ok-make_room.ensures.ok
    c.in_ok-make_room.ensures.room c.push.ensures.room
    (c.push.ensures.items ∙ ap (λ (xs : List Entry). xs ++ (Tick c.args.now_ms) ∷ []) c.make_room.ensures.items))

pub returns-clause-journal : goal.returns-clause-journal
returns-clause-journal c =
    is_journal c.tick.new.self.machine.settings c.push.new.self.items c.tick.new.self c.self.inside.bytes
    c.push.new.self.room
    (tick_replay c.args.now_ms c.self.inside.core c.tick.new.self c.self.inside.entries.items c.push.new.self.items
    c.self.inside.bytes c.self.inside.entries.room c.make_room.new.entries.room c.push.new.self.room
    c.self.invariant c.tick.ensures.ticked c.tick.ensures.kept c.tick.ensures.brought c.in_ok-make_room.ensures.ok
    c.in_ok-make_room.ensures.room c.push.ensures.room
    (c.push.ensures.items ∙ ap (λ (xs : List Entry). xs ++ (Tick c.args.now_ms) ∷ []) c.make_room.ensures.items))
