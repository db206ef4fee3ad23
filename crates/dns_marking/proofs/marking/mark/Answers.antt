use Rattle.std.proofs.Common.{rules, ◌≡◌, get_or, None, Some, sym, ap, ◌∙◌}
use Rattle.dns_rules.specs.ChainedSets.{bare}
use Rattle.dns_rules.specs.MarkParts.{marked_by}
use Rattle.dns_marking.specs.Counting.{count_at, place_for, set_at}
use Rattle.dns_marking.specs.Timing.{marked_with}
use Rattle.dns_marking.proofs.TimeLemmas.{marked_here}
use Rattle.dns_marking.proofs.marking.mark.Goals as goal

pub returns-in-Some-clause-mark : goal.returns-in-Some-clause-mark
returns-in-Some-clause-mark c =
    let now = c.args.timed.now.moment in
    let sets = c.args.timed.now.sets.now in
    let ttls = c.args.timed.now.ttls.now in
    let r = c.args.next.now in
    let n = c.in-Some.place in
    let counts = c.args.counts.now in
    let is : place_for c.args.places.now r ≡ Some n = search (rules, c.set_rtype-readable.ensures.rtype) in
    let made : c.mark_by.new.next ≡ marked_with (get_or ttls n None) (get_or counts n 0) r c.index-timed-place.result.judged =
    search (rules, c.set.view_is) in
    marked_here now sets ttls r c.mark_by.new.next n (get_or counts n 0) c.index-timed-place.result None c.requires.timed.each
    (c.requires.placed n is) c.index-timed-place.is made
    ∙ ap (λ o. marked_by now (count_at counts o) r (set_at (bare sets) o)) (sym is)
