use Rattle.std.proofs.Common.{◌≡◌, true, false, None, Some, sym, ap, ◌∙◌, length, arith, rules}
use Rattle.std.specs.List.{find}
use Rattle.dns_model.specs.Names.{at_or_above}
use Rattle.dns_rules.specs.Nsec3Covering.{nsec3_matches}
use Rattle.dns_rules.specs.Nsec3Verdict.{nearest_match}
use Rattle.dns_denial.specs.Counts.{steps_above}
use Rattle.dns_denial.proofs.Counts.{steps_more}
use Rattle.dns_denial.proofs.Nsec3Enclosers.{match_of_root, match_outside, match_here, left_first, left_more, encloser_of}
use Rattle.dns_denial.proofs.nsec3_encloser.nearest_match.Goals as goal

pub names-init : goal.names-init
names-init g c =
    let given = left_first c.args.by.now c.args.zone.now (g.R.Nsec3Records.records c.args.records.now) c.args.name.now c.args.hash.now in
    let same = c.copy-next_closer.ensures.value in
    record {
      left = rw same (given c.requires c.copy-next_closer.ensures.name);
      steps = rw same (omega arith);
      hashes = rw same (omega arith);
    }

pub names-preserved : goal.names-preserved
names-preserved g c =
    let above = c.in-Some.above in
    let inside : at_or_above c.args.zone.now above ≡ true = search rules in
    let none : find (nsec3_matches c.hash-higher.result) (g.R.Nsec3Records.records c.args.records.now) ≡ None = search rules in
    let missing = ap (λ h. find (nsec3_matches h) (g.R.Nsec3Records.records c.args.records.now)) (sym c.hash-higher.ensures.hash)
    ∙ none in
    let most = g.R.Nsec3Records.most_steps c.args.records.now in
    let one = ap (steps_above most) c.in-Some.ensures ∙ steps_more most _ above in
    let shorter = ap length c.in-Some.ensures in
    record {
      left = left_more c.args.by.now c.args.zone.now (g.R.Nsec3Records.records c.args.records.now) c.args.name.now
          c.names.next_closer _ above c.names.closer_hash c.hash-higher.result c.names.invariant.left c.in-Some.ensures
          inside missing c.hash-higher.ensures.hash;
      steps = omega (arith, one, c.hash-higher.ensures.steps, c.matching.ensures.steps, c.names.invariant.steps);
      hashes = omega (arith, shorter, c.hash-higher.ensures.hashes, c.matching.ensures.hashes, c.names.invariant.hashes);
    }

pub returns-then-not-zone_of-clause-found : goal.returns-then-not-zone_of-clause-found
returns-then-not-zone_of-clause-found g c =
    let by = c.args.by.now in
    let zone = c.args.zone.now in
    let nsec3s = (g.R.Nsec3Records.records c.args.records.now) in
    let above = c.in-Some.above in
    let outside : at_or_above zone above ≡ false = search rules in
    let none = match_outside by zone nsec3s _ above outside in
    sym (sym c.names.invariant.left.same ∙ ap (nearest_match by zone nsec3s) c.in-Some.ensures ∙ none)

pub returns-in-Some-matching-clause-found : goal.returns-in-Some-matching-clause-found
returns-in-Some-matching-clause-found g c =
    let by = c.args.by.now in
    let zone = c.args.zone.now in
    let nsec3s = (g.R.Nsec3Records.records c.args.records.now) in
    let above = c.in-Some.above in
    let nsec3 = c.in-Some-matching.nsec3.now in
    let inside : at_or_above zone above ≡ true = search rules in
    let found : find (nsec3_matches c.hash-higher.result) nsec3s ≡ Some nsec3 = search rules in
    let there = ap (λ h. find (nsec3_matches h) nsec3s) (sym c.hash-higher.ensures.hash) ∙ found in
    let here = match_here by zone nsec3s _ above nsec3 inside there in
    sym (sym c.names.invariant.left.same ∙ ap (nearest_match by zone nsec3s) c.in-Some.ensures ∙ here)

pub returns-in-Some-matching-clause-closer : goal.returns-in-Some-matching-clause-closer
returns-in-Some-matching-clause-closer g c =
    encloser_of c.args.by.now c.args.zone.now (g.R.Nsec3Records.records c.args.records.now) c.args.name.now c.names.next_closer _
    c.in-Some.above c.names.closer_hash c.names.invariant.left c.in-Some.ensures

pub returns-in-Some-matching-clause-steps : goal.returns-in-Some-matching-clause-steps
returns-in-Some-matching-clause-steps g c =
    let most = g.R.Nsec3Records.most_steps c.args.records.now in
    let one = ap (steps_above most) c.in-Some.ensures ∙ steps_more most _ c.in-Some.above in
    omega (arith, one, c.hash-higher.ensures.steps, c.matching.ensures.steps, c.names.invariant.steps)

pub returns-in-Some-matching-clause-hashes : goal.returns-in-Some-matching-clause-hashes
returns-in-Some-matching-clause-hashes g c =
    let shorter = ap length c.in-Some.ensures in
    omega (arith, shorter, c.hash-higher.ensures.hashes, c.matching.ensures.hashes, c.names.invariant.hashes)

pub returns-clause-found : goal.returns-clause-found
returns-clause-found g c =
    let by = c.args.by.now in
    let zone = c.args.zone.now in
    let nsec3s = (g.R.Nsec3Records.records c.args.records.now) in
    let none = match_of_root by zone nsec3s in
    sym (sym c.names.invariant.left.same ∙ ap (nearest_match by zone nsec3s) c.in_default.ensures ∙ none)
