use Rattle.std.proofs.Common.{◌≡◌, ◌∷◌, [], ◌++◌, List, ℕ, length, true, false, Bool, Option, sym, ap, ◌∙◌, subst, arith}
use Rattle.std.proofs.lemmas.Result.{err_from_is_err_and}
use Rattle.dns_journal.specs.Entries.{Entry, Close}
use Rattle.dns_journal.specs.Replays.{EntryListValue, IsReplay}
use Rattle.dns_multiplexer.specs.Draws.{CoreValue}
use Rattle.dns_multiplexer.specs.Brought.{TracedCore}
use Rattle.dns_journal.proofs.ReplayLemmas.{close_replay}
use Rattle.dns_journal.proofs.ViewLemmas.{close_added, close_refused, is_journal}
use Rattle.dns_journal.proofs.journaled_core.JournaledCore.close.Goals as goal

pub invariant_of-self-2 : goal.invariant_of-self-2
invariant_of-self-2 c =
    (close_replay c.args.fault c.len.result c.self.inside.core c.close.new.self c.self.inside.entries.items
    c.push.new.self.items
    c.self.inside.bytes c.self.inside.entries.room c.make_close_room.new.entries.room c.push.new.self.room
    c.self.invariant c.close.ensures.closed c.close.ensures.kept
    (c.len.ensures ∙ ap (λ (xs : List Entry). length xs) c.make_close_room.ensures.items)
    c.close.ensures.brought
    (let fits = c.in_ok-make_close_room.ensures.ok in omega arith) c.in_ok-make_close_room.ensures.room
    c.push.ensures.room
    (c.push.ensures.items ∙ ap (λ (xs : List Entry). xs ++ Close c.args.fault ∷ []) c.make_close_room.ensures.items))

pub returns-clause-ok : goal.returns-clause-ok
returns-clause-ok c =
    close_added c.args.self.now c.self.inside.core.machine.settings c.close.new.self.machine.settings
    c.self.inside.entries.items c.push.new.self.items c.self.inside.core c.self.inside.bytes c.self.inside.entries.room
    (Close c.args.fault) c.self.invariant c.self.view_is (ap (λ (m : CoreValue). m.settings) c.close.ensures.kept)
    c.in_ok-make_close_room.ensures.ok
    (c.push.ensures.items ∙ ap (λ (xs : List Entry). xs ++ Close c.args.fault ∷ []) c.make_close_room.ensures.items)

pub returns-clause-journal : goal.returns-clause-journal
returns-clause-journal c =
    is_journal c.close.new.self.machine.settings c.push.new.self.items c.close.new.self c.self.inside.bytes
    c.push.new.self.room
    (close_replay c.args.fault c.len.result c.self.inside.core c.close.new.self c.self.inside.entries.items
    c.push.new.self.items
    c.self.inside.bytes c.self.inside.entries.room c.make_close_room.new.entries.room c.push.new.self.room
    c.self.invariant c.close.ensures.closed c.close.ensures.kept
    (c.len.ensures ∙ ap (λ (xs : List Entry). length xs) c.make_close_room.ensures.items)
    c.close.ensures.brought
    (let fits = c.in_ok-make_close_room.ensures.ok in omega arith) c.in_ok-make_close_room.ensures.room
    c.push.ensures.room
    (c.push.ensures.items ∙ ap (λ (xs : List Entry). xs ++ Close c.args.fault ∷ []) c.make_close_room.ensures.items))
