use Rattle.std.proofs.Common.{subst, arith}
use Rattle.std.proofs.lemmas.List.{take_all}
use Rattle.dns_rules.specs.ChainedSets.{bare}
use Rattle.dns_trail.specs.Indexed.{AreIndexed}
use Rattle.dns_trail.proofs.IndexLemmas.{indexed_more}
use Rattle.dns_trail.proofs.PlaceLemmas.{keeps_none}
use Rattle.dns_trail.proofs.places.places_of_sets.Goals as goal

pub each-init : goal.each-init
each-init c = keeps_none _ _

pub each-preserved : goal.each-preserved
each-preserved c =
    indexed_more c.each.places c.add_place.new.places c.args.sets.now c.each.place c.index-sets-place.result c.in_ok-key.key
    c.each-test.true
    c.index-sets-place.is c.in_ok-key.ensures c.each.invariant c.in_ok-add_place.ensures

pub returns : goal.returns
returns c =
    subst (λ xs. AreIndexed c.each.places (bare xs))
    (take_all c.each.place c.args.sets.now (omega arith)) c.each.invariant
