use Rattle.std.proofs.Common.{◌≡◌, ◌∷◌, [], ◌++◌, List, ℕ, Option, sym, ap, ◌∙◌, subst, arith, reverse}
use Rattle.std.proofs.lemmas.Result.{err_from_is_err_and}
use Rattle.dns_journal.specs.Entries.{Entry, Take}
use Rattle.turns.specs.Turns.{Held}
use Rattle.dns_multiplexer.specs.Machine.{Settings}
use Rattle.dns_multiplexer.specs.Views.{taken_of}
use Rattle.dns_journal.specs.Histories.{taken_at}
use Rattle.dns_journal.specs.Replays.{EntryListValue, IsReplay}
use Rattle.dns_multiplexer.specs.Draws.{CoreValue}
use Rattle.dns_multiplexer.specs.Brought.{TracedCore}
use Rattle.dns_journal.proofs.ReplayLemmas.{take_replay, take_found}
use Rattle.dns_journal.proofs.ViewLemmas.{call_added, call_refused, is_journal}
use Rattle.dns_journal.proofs.journaled_core.JournaledCore.take.Goals as goal

pub invariant_of-self-2 : goal.invariant_of-self-2
invariant_of-self-2 c =
    (take_replay c.args.id.0 c.self.inside.core c.take-taken.new.self c.self.inside.entries.items c.push.new.self.items
    c.self.inside.bytes c.self.inside.entries.room c.make_room.new.entries.room c.push.new.self.room
    (taken_of c.take-taken.result.0) c.take-taken.result.1 c.found.result
    c.self.invariant c.take-taken.ensures.taken c.take-taken.ensures.event c.found.ensures c.take-taken.ensures.kept
    c.take-taken.ensures.brought c.in_ok-make_room.ensures.ok c.in_ok-make_room.ensures.room c.push.ensures.room
    (c.push.ensures.items ∙ ap (λ (xs : List Entry). xs ++ Take c.args.id.0 c.found.result ∷ [])
    c.make_room.ensures.items))

pub returns-clause-journal : goal.returns-clause-journal
returns-clause-journal c =
    is_journal c.take-taken.new.self.machine.settings c.push.new.self.items c.take-taken.new.self c.self.inside.bytes
    c.push.new.self.room
    (take_replay c.args.id.0 c.self.inside.core c.take-taken.new.self c.self.inside.entries.items c.push.new.self.items
    c.self.inside.bytes c.self.inside.entries.room c.make_room.new.entries.room c.push.new.self.room
    (taken_of c.take-taken.result.0) c.take-taken.result.1 c.found.result
    c.self.invariant c.take-taken.ensures.taken c.take-taken.ensures.event c.found.ensures c.take-taken.ensures.kept
    c.take-taken.ensures.brought c.in_ok-make_room.ensures.ok c.in_ok-make_room.ensures.room c.push.ensures.room
    (c.push.ensures.items ∙ ap (λ (xs : List Entry). xs ++ Take c.args.id.0 c.found.result ∷ [])
    c.make_room.ensures.items))

pub returns-clause-ok : goal.returns-clause-ok
returns-clause-ok c =
    record {
      found = c.found.result;
      added = call_added c.args.self.now c.self.inside.core.machine.settings c.take-taken.new.self.machine.settings
          c.self.inside.entries.items c.push.new.self.items c.self.inside.core c.self.inside.bytes
          c.self.inside.entries.room
          (Take c.args.id.0 c.found.result) c.self.invariant c.self.view_is
          (ap (λ (m : CoreValue). m.settings) c.take-taken.ensures.kept) c.in_ok-make_room.ensures.ok
          (c.push.ensures.items ∙ ap (λ (xs : List Entry). xs ++ Take c.args.id.0 c.found.result ∷ [])
          c.make_room.ensures.items);
      gives = take_found c.args.id.0 c.self.inside.core c.self.inside.entries.items c.self.inside.bytes
          c.self.inside.entries.room (taken_of c.take-taken.result.0) c.take-taken.result.1 c.self.invariant
          c.take-taken.ensures.taken.answered c.take-taken.ensures.event
          ∙ ap (taken_at (reverse c.self.inside.entries.items)) (sym c.found.ensures)
          ∙ ap (λ (h : Held Settings Entry). taken_at (reverse h.journal) c.found.result) c.self.view_is;
    }
