use Rattle.std.proofs.Common.{◌≡◌, ◌≤◌, ◌+◌, ◌∷◌, [], ◌++◌, List, ℕ, Option, Err, length, refl, sym, ap, ◌∙◌, subst, arith}
use Rattle.dns_handle.specs.Errors.{NoConnections}
use Rattle.dns_journal.specs.Entries.{Entry, Send, Arrive, Pop, drawn_of, reply_of}
use Rattle.dns_journal.specs.Limits.{request_len, kept_in, was_closed}
use Rattle.turns.specs.Turns.{Held}
use Rattle.dns_journal.proofs.ReplayLemmas.{arrive_replay}
use Rattle.dns_journal.proofs.ViewLemmas.{is_journal}
use Rattle.dns_journal.proofs.journaled_core.JournaledCore.arrive.Goals as goal

pub invariant_of-self-2 : goal.invariant_of-self-2
invariant_of-self-2 c =
    arrive_replay c.args.bytes c.in_ok-reply.reply c.len-2.result c.self.inside.core c.arrive.new.self
    c.self.inside.entries.items c.push.new.self.items c.self.inside.bytes c.in_ok-sum.sum c.self.inside.entries.room
    c.make_room.new.entries.room c.push.new.self.room c.self.invariant c.in_ok-reply.ensures.arrived
    c.arrive.ensures.kept
    (c.len-2.ensures ∙ ap (λ (xs : List Entry). length xs) c.make_room.ensures.items) c.in_ok-reply.ensures.brought
    (c.in_ok-sum.ensures.ok.0 ∙ ap (λ n. c.self.inside.bytes + n) c.len.ensures) c.in_ok-sum.ensures.ok.1
    c.in_ok-make_room.ensures.ok c.in_ok-make_room.ensures.room c.push.ensures.room
    (c.push.ensures.items
    ∙ ap (λ (xs : List Entry). xs ++ Arrive c.in_ok-kept.kept c.in_ok-reply.reply ∷ []) c.make_room.ensures.items
    ∙ ap (λ (b : List ℕ). c.self.inside.entries.items ++ Arrive b c.in_ok-reply.reply ∷ []) c.in_ok-kept.ensures)

pub returns-clause-journal : goal.returns-clause-journal
returns-clause-journal c =
    is_journal c.arrive.new.self.machine.settings c.push.new.self.items c.arrive.new.self c.in_ok-sum.sum
    c.push.new.self.room
    (arrive_replay c.args.bytes c.in_ok-reply.reply c.len-2.result c.self.inside.core c.arrive.new.self
    c.self.inside.entries.items c.push.new.self.items c.self.inside.bytes c.in_ok-sum.sum c.self.inside.entries.room
    c.make_room.new.entries.room c.push.new.self.room c.self.invariant c.in_ok-reply.ensures.arrived
    c.arrive.ensures.kept
    (c.len-2.ensures ∙ ap (λ (xs : List Entry). length xs) c.make_room.ensures.items) c.in_ok-reply.ensures.brought
    (c.in_ok-sum.ensures.ok.0 ∙ ap (λ n. c.self.inside.bytes + n) c.len.ensures) c.in_ok-sum.ensures.ok.1
    c.in_ok-make_room.ensures.ok c.in_ok-make_room.ensures.room c.push.ensures.room
    (c.push.ensures.items
    ∙ ap (λ (xs : List Entry). xs ++ Arrive c.in_ok-kept.kept c.in_ok-reply.reply ∷ []) c.make_room.ensures.items
    ∙ ap (λ (b : List ℕ). c.self.inside.entries.items ++ Arrive b c.in_ok-reply.reply ∷ []) c.in_ok-kept.ensures))
