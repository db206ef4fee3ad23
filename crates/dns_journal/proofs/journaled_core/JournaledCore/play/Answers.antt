use Rattle.std.proofs.Common.{◌≡◌, ◌≤◌, ◌+◌, ◌∷◌, [], ◌++◌, List, ℕ, Option, Err, length, refl, sym, ap, ◌∙◌, subst, arith}
use Rattle.turns.specs.Turns.{Held}
use Rattle.dns_handle.specs.Errors.{NoConnections}
use Rattle.dns_journal.specs.Entries.{Entry, Send, drawn_of, reply_of}
use Rattle.dns_journal.specs.Limits.{was_closed}
use Rattle.dns_journal.proofs.ReplayLemmas.{send_replay}
use Rattle.dns_journal.proofs.SendLemmas.{send_grows}
use Rattle.dns_journal.proofs.ViewLemmas.{is_journal}
use Rattle.dns_journal.proofs.journaled_core.JournaledCore.play.Goals as goal

pub invariant_of-self-2 : goal.invariant_of-self-2
invariant_of-self-2 g c =
    send_replay c.args.request c.args.now_ms (drawn_of c.in_ok-sent.sent.drawn) (reply_of c.in_ok-sent.sent.reply)
    c.self.inside.core c.play_send.new.core c.self.inside.entries.items c.push.new.self.items
    c.self.inside.bytes c.in_ok-bytes.bytes c.self.inside.entries.room c.make_room.new.entries.room c.push.new.self.room
    c.self.invariant (ap was_closed c.self.view_is ∙ c.requires.open)
    c.in_ok-sent.ensures.ok.played c.in_ok-sent.ensures.ok.kept c.in_ok-sent.ensures.ok.brought
    (send_grows c.args.request c.args.now_ms (drawn_of c.in_ok-sent.sent.drawn) (reply_of c.in_ok-sent.sent.reply)
    c.self.inside.core.machine)
    (c.in_ok-bytes.ensures.ok.0 ∙ ap (λ n. c.self.inside.bytes + n) c.len_of.ensures) c.in_ok-bytes.ensures.ok.1
    c.in_ok-make_room.ensures.ok c.in_ok-make_room.ensures.room c.push.ensures.room
    (c.push.ensures.items
    ∙ ap (λ (xs : List Entry). xs ++ Send c.in_ok-kept.kept c.args.now_ms (drawn_of c.in_ok-sent.sent.drawn)
    (reply_of c.in_ok-sent.sent.reply) ∷ []) c.make_room.ensures.items
    ∙ ap (λ (r : Option (List ℕ)). c.self.inside.entries.items ++ Send r c.args.now_ms
    (drawn_of c.in_ok-sent.sent.drawn)
    (reply_of c.in_ok-sent.sent.reply) ∷ []) c.in_ok-kept.ensures)

pub returns-clause-journal : goal.returns-clause-journal
returns-clause-journal g c =
    is_journal c.play_send.new.core.machine.settings c.push.new.self.items c.play_send.new.core c.in_ok-bytes.bytes
    c.push.new.self.room
    (send_replay c.args.request c.args.now_ms (drawn_of c.in_ok-sent.sent.drawn) (reply_of c.in_ok-sent.sent.reply)
    c.self.inside.core c.play_send.new.core c.self.inside.entries.items c.push.new.self.items
    c.self.inside.bytes c.in_ok-bytes.bytes c.self.inside.entries.room c.make_room.new.entries.room c.push.new.self.room
    c.self.invariant (ap was_closed c.self.view_is ∙ c.requires.open)
    c.in_ok-sent.ensures.ok.played c.in_ok-sent.ensures.ok.kept c.in_ok-sent.ensures.ok.brought
    (send_grows c.args.request c.args.now_ms (drawn_of c.in_ok-sent.sent.drawn) (reply_of c.in_ok-sent.sent.reply)
    c.self.inside.core.machine)
    (c.in_ok-bytes.ensures.ok.0 ∙ ap (λ n. c.self.inside.bytes + n) c.len_of.ensures) c.in_ok-bytes.ensures.ok.1
    c.in_ok-make_room.ensures.ok c.in_ok-make_room.ensures.room c.push.ensures.room
    (c.push.ensures.items
    ∙ ap (λ (xs : List Entry). xs ++ Send c.in_ok-kept.kept c.args.now_ms (drawn_of c.in_ok-sent.sent.drawn)
    (reply_of c.in_ok-sent.sent.reply) ∷ []) c.make_room.ensures.items
    ∙ ap (λ (r : Option (List ℕ)). c.self.inside.entries.items ++ Send r c.args.now_ms
    (drawn_of c.in_ok-sent.sent.drawn)
    (reply_of c.in_ok-sent.sent.reply) ∷ []) c.in_ok-kept.ensures))
