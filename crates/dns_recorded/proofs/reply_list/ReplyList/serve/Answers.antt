use Rattle.dns_recorded.proofs.ReplyLemmas.{index_less}
use Rattle.dns_recorded.proofs.ServedLemmas.{next, going, going_within, serves_none, serves_copy, serves_turn}
use Rattle.dns_recorded.proofs.reply_list.ReplyList.serve.Goals as goal

pub returns-in_default : goal.returns-in_default
returns-in_default c =
    let slots = c.self.inside.recordings.items in
    rw (← c.self.view_is)
    (serves_none c.args.query.now slots c.args.by_turn
    (next c.self.inside.places slots c.args.query.now c.in_ok-key.key c.args.by_turn _ c.self.invariant c.in_ok-key.ensures
    c.in_default.ensures))

pub returns-then-turn : goal.returns-then-turn
returns-then-turn c =
    let slots = c.self.inside.recordings.items in
    let found = next c.self.inside.places slots c.args.query.now c.in_ok-key.key c.args.by_turn _ c.self.invariant
    c.in_ok-key.ensures c.in-Some.ensures in
    rw (← c.self.view_is)
    (serves_copy c.args.query.now slots c.args.by_turn c.in-Some.turn _ found c.if-turn.true
    (rw c.deref.ensures.value at c.clone_at.ensures))

pub take_at-requires : goal.take_at-requires
take_at-requires c =
    let slots = c.self.inside.recordings.items in
    let found = next c.self.inside.places slots c.args.query.now c.in_ok-key.key c.args.by_turn _ c.self.invariant
    c.in_ok-key.ensures c.in-Some.ensures in
    going_within c.args.query.now slots c.args.by_turn c.in-Some.turn.place
    (going c.args.query.now slots c.args.by_turn c.in-Some.turn found c.if-turn.false)

pub invariant_of-self : goal.invariant_of-self
invariant_of-self c =
    let slots = c.self.inside.recordings.items in
    let found = next c.self.inside.places slots c.args.query.now c.in_ok-key.key c.args.by_turn _ c.self.invariant
    c.in_ok-key.ensures c.in-Some.ensures in
    let g = going c.args.query.now slots c.args.by_turn c.in-Some.turn found c.if-turn.false in
    rw c.take_at.ensures.gone
    (index_less c.self.inside.places c.drop_place.new.places slots c.args.query.now c.in_ok-key.key c.in-Some.turn.place _
    c.self.invariant c.in_ok-key.ensures g.first c.drop_place.ensures)

pub returns : goal.returns
returns c =
    let slots = c.self.inside.recordings.items in
    let found = next c.self.inside.places slots c.args.query.now c.in_ok-key.key c.args.by_turn _ c.self.invariant
    c.in_ok-key.ensures c.in-Some.ensures in
    let g = going c.args.query.now slots c.args.by_turn c.in-Some.turn found c.if-turn.false in
    rw (← c.self.view_is, c.take_at.ensures.gone)
    (serves_turn c.args.query.now slots c.args.by_turn c.in-Some.turn.place _ g c.take_at.ensures.reply)
