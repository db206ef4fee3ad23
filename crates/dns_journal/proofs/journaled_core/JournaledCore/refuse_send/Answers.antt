use Rattle.std.proofs.Common.{◌≡◌, ◌≤◌, ◌+◌, ◌∷◌, [], ◌++◌, List, ℕ, Option, Err, length, refl, sym, ap, ◌∙◌, subst, arith}
use Rattle.turns.specs.Turns.{Held}
use Rattle.dns_handle.specs.Errors.{NoConnections}
use Rattle.dns_journal.specs.Entries.{Entry, Send, drawn_of, reply_of}
use Rattle.dns_journal.specs.Limits.{was_closed}
use Rattle.dns_journal.proofs.ReplayLemmas.{refused_replay}
use Rattle.dns_journal.proofs.ViewLemmas.{is_journal}
use Rattle.dns_journal.proofs.journaled_core.JournaledCore.refuse_send.Goals as goal

pub invariant_of-self-2 : goal.invariant_of-self-2
invariant_of-self-2 c =
    refused_replay c.args.request c.args.now_ms c.self.inside.core c.self.inside.entries.items c.push.new.self.items
    c.self.inside.bytes c.in_ok-bytes.bytes c.self.inside.entries.room c.make_room.new.entries.room c.push.new.self.room
    c.self.invariant (ap was_closed c.self.view_is ∙ c.requires)
    (c.in_ok-bytes.ensures.ok.0 ∙ ap (λ n. c.self.inside.bytes + n) c.len_of.ensures) c.in_ok-bytes.ensures.ok.1
    c.in_ok-make_room.ensures.ok c.in_ok-make_room.ensures.room c.push.ensures.room
    (c.push.ensures.items
    ∙ ap (λ (xs : List Entry). xs ++ Send c.args.request c.args.now_ms [] (Err NoConnections) ∷ [])
    c.make_room.ensures.items)

pub returns-clause-journal : goal.returns-clause-journal
returns-clause-journal c =
    is_journal c.self.inside.core.machine.settings c.push.new.self.items c.self.inside.core c.in_ok-bytes.bytes
    c.push.new.self.room
    (refused_replay c.args.request c.args.now_ms c.self.inside.core c.self.inside.entries.items c.push.new.self.items
    c.self.inside.bytes c.in_ok-bytes.bytes c.self.inside.entries.room c.make_room.new.entries.room c.push.new.self.room
    c.self.invariant (ap was_closed c.self.view_is ∙ c.requires)
    (c.in_ok-bytes.ensures.ok.0 ∙ ap (λ n. c.self.inside.bytes + n) c.len_of.ensures) c.in_ok-bytes.ensures.ok.1
    c.in_ok-make_room.ensures.ok c.in_ok-make_room.ensures.room c.push.ensures.room
    (c.push.ensures.items
    ∙ ap (λ (xs : List Entry). xs ++ Send c.args.request c.args.now_ms [] (Err NoConnections) ∷ [])
    c.make_room.ensures.items))
