use Rattle.std.proofs.Common.{subst, arith}
use Rattle.std.proofs.lemmas.List.{take_all}
use Rattle.dns_trail.specs.Indexed.{AreKeyed}
use Rattle.dns_trail.proofs.ServedLemmas.{keyed_more}
use Rattle.dns_trail.proofs.PlaceLemmas.{keeps_none}
use Rattle.dns_trail.proofs.kept.places_of_entries.Goals as goal

pub each-init : goal.each-init
each-init c = keeps_none _ _

pub each-preserved : goal.each-preserved
each-preserved c =
    keyed_more c.each.places c.add_place.new.places c.args.entries.now c.each.place c.index-entries-place.result
    c.in_ok-key.key c.each-test.true
    c.index-entries-place.is c.in_ok-key.ensures c.each.invariant c.in_ok-add_place.ensures

pub returns : goal.returns
returns c =
    subst (λ es. AreKeyed c.each.places es)
    (take_all c.each.place c.args.entries.now (omega arith)) c.each.invariant
