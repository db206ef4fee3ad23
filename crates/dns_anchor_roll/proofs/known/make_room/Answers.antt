use Rattle.std.proofs.Common.{◌∙◌, sym, ap}
use Rattle.dns_anchor_roll.specs.Tables.{has_entry}
use Rattle.dns_anchor_roll.proofs.Keys.{has_unchanged, room_made, room_more, room_same, room_unchanged}
use Rattle.dns_anchor_roll.proofs.known.make_room.Goals as goal

pub returns : goal.returns
returns c =
    let key = c.in_ok-own.own.items in
    let same = c.in_ok-own.ensures.items in
    let none = ap (has_entry c.args.known.now) same ∙ sym c.contains_key.ensures ∙ c.if-contains_key.false in
    record {
      same = room_same key c.args.known.now c.insert.new.self c.in_ok-insert.ensures.updates none;
      room = sym (ap (has_entry c.insert.new.self) same) ∙ room_made key c.args.known.now c.insert.new.self c.in_ok-insert.ensures.updates;
      more = room_more key c.args.known.now c.insert.new.self c.in_ok-insert.ensures.updates;
    }

pub returns-in_err-insert-clause-same : goal.returns-in_err-insert-clause-same
returns-in_err-insert-clause-same c = room_unchanged c.args.known.now c.insert.new.self c.in_err-insert.ensures.err

pub returns-in_err-insert-clause-more : goal.returns-in_err-insert-clause-more
returns-in_err-insert-clause-more c = has_unchanged c.args.known.now c.insert.new.self c.in_err-insert.ensures.err
