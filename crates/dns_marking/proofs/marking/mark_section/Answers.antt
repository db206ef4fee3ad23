use Rattle.std.proofs.Common.{rules, ◌≡◌, ◌<◌, ◌^◌, ◌++◌, length, take, drop, replicate, refl, sym, ap, ◌∙◌}
use Rattle.std.specs.List.{find}
use Rattle.std.proofs.lemmas.List.{length-map}
use Rattle.dns_rules.specs.ChainedSets.{bare}
use Rattle.dns_rules.specs.Marking.{map_after, is_about}
use Rattle.dns_rules.specs.MarkParts.{marked_by}
use Rattle.dns_marking.specs.Counting.{count_at, counted, place_for, set_at}
use Rattle.dns_marking.proofs.MarkLoop.{next_is, section_more, counts_back, counts_more, none_counted, few}
use Rattle.dns_marking.proofs.TimeLemmas.{found_at, place_within}
use Rattle.dns_marking.proofs.marking.mark_section.Goals as goal

pub loop-next-init : goal.loop-next-init
unfolding map_after
loop-next-init c =
    let sets = c.args.timed.now.sets.now in
    let zeros : c.in_ok-counts.counts.items ≡ replicate (length sets) 0 = search rules in
    let long : length sets ≡ length (bare sets) = sym (length-map sets (λ s. s.judged)) in
    record { records = refl; counts = none_counted c.in_ok-places.places (bare sets) c.in_ok-counts.counts.items (length sets) long zeros }

pub mark-requires-clause-placed : goal.mark-requires-clause-placed
mark-requires-clause-placed c =
    λ n is.
    place_within c.in_ok-places.places c.args.section c.args.timed.now.sets.now c.next-item.result n c.in_ok-places.ensures
    (ap (place_for c.in_ok-places.places) c.next-item.is ∙ is)

pub mark-requires-clause-few : goal.mark-requires-clause-few
mark-requires-clause-few c =
    let x = c.next-item.result in
    let long : length c.args.records.now < 2 ^ 63 = search rules in
    let short : count_at c.loop-next.counts.items (place_for c.in_ok-places.places x) < 2 ^ 63 =
    few c.in_ok-places.places c.args.section (bare c.args.timed.now.sets.now) c.loop-next.counts.items c.args.records.now
    c.loop-next.next-index x
    c.in_ok-places.ensures c.loop-next.invariant.counts c.loop-next-test.true long in
    search (rules, short, c.next-item.is)

pub loop-next-preserved : goal.loop-next-preserved
loop-next-preserved c =
    let x = c.next-item.result in
    let now = c.args.timed.now.moment in
    let sets = bare c.args.timed.now.sets.now in
    let places = c.in_ok-places.places in
    let place = place_for places x in
    let is = next_is now c.args.section sets c.args.records.now c.loop-next.records c.loop-next.next-index x
    c.loop-next-test.true c.loop-next.invariant.records c.next-item.is in
    let by_place : c.mark.new.next ≡ marked_by now (count_at c.loop-next.counts.items place) x (set_at sets place) =
    search (rules, c.next-item.is, c.mark.ensures.mark) in
    let made : c.mark.new.next ≡ marked_by now (count_at c.loop-next.counts.items place) x (find (is_about c.args.section x) sets) =
    by_place ∙ ap (marked_by now (count_at c.loop-next.counts.items place) x)
    (found_at places c.args.section sets x place c.in_ok-places.ensures refl) in
    let written = c.mark.new.counts in
    let long : c.loop-next.counts.len ≡ length c.loop-next.counts.items = search rules in
    let lent : c.deref_mut.result.now ≡ c.loop-next.counts.items = search rules in
    let counted_is : written ≡ counted c.deref_mut.result.now place x = search (rules, c.next-item.is, c.mark.ensures.counts) in
    let after = take c.loop-next.counts.len (written ++ drop (length written) c.loop-next.counts.items) in
    let met : after ≡ counted c.loop-next.counts.items place x =
    counts_back c.loop-next.counts.len c.loop-next.counts.items c.deref_mut.result.now written place x long lent counted_is in
    record {
      records = section_more places now c.args.section sets c.loop-next.counts.items c.args.records.now c.loop-next.records
          c.loop-next.next-index x c.mark.new.next c.in_ok-places.ensures c.loop-next.invariant.counts is made;
      counts = counts_more places now c.args.section sets c.loop-next.counts.items after c.args.records.now c.loop-next.records
          c.loop-next.next-index x c.loop-next.invariant.counts is met;
    }
