use Rattle.std.proofs.Common.{◌+◌, length, refl, arith}
use Rattle.dns_aggressive.proofs.Expiring.{inside_up, parted_same}
use Rattle.std.specs.Ordering.{is_lt}
use Rattle.dns_aggressive.specs.Places.{record_cmp}
use Rattle.dns_aggressive.proofs.Orders.{front_of_place}
use Rattle.dns_aggressive.proofs.Reaches.{noted}
use Rattle.dns_aggressive.proofs.reaching.note.Goals as goal

pub passed-number-requires-clause-inside : goal.passed-number-requires-clause-inside
passed-number-requires-clause-inside c =
    inside_up c.args.by_place.now (c.args.position + 1) (length c.args.kept.now) c.requires.placed.inside
    (omega (arith, c.requires.within))

pub passed-number-requires-clause-front : goal.passed-number-requires-clause-front
passed-number-requires-clause-front c =
    front_of_place c.args.kept.now c.args.by_place.now c.record_at.result.now c.requires.placed.rising

pub note_before-requires-clause-inside : goal.note_before-requires-clause-inside
note_before-requires-clause-inside c =
    inside_up c.args.by_place.now (c.args.position + 1) (length c.args.kept.now) c.requires.placed.inside
    (omega (arith, c.requires.within))

pub note_after-requires-clause-inside : goal.note_after-requires-clause-inside
note_after-requires-clause-inside c =
    inside_up c.args.by_place.now (c.args.position + 1) (length c.args.kept.now) c.requires.placed.inside
    (omega (arith, c.requires.within))

pub returns-clause-reaching : goal.returns-clause-reaching
returns-clause-reaching c =
    noted c.args.kept.now c.args.by_place.now c.args.reaching.now.items c.note_after.new.reaching.items
    c.passed-number.result c.args.position c.requires.placed
    (parted_same (λ k x. is_lt (record_cmp k x)) c.args.kept.now c.args.by_place.now c.args.by_place.now
    c.passed-number.result _ _ refl c.record_at.ensures c.passed-number.ensures)
    c.requires.reaching c.note_after.ensures.order
    (λ p t. c.note_after.ensures.there p (c.note_before.ensures.there p t))
    (λ some r. c.note_after.ensures.there _ (c.note_before.ensures.here some r))
    c.note_after.ensures.here
