use Rattle.std.proofs.Common.{ap, sym, ◌∙◌, subst}
use Rattle.dns_outcome.specs.Joining.{met_by, handed}
use Rattle.dns_outcome.specs.SetPlaces.{ArePlaces}
use Rattle.dns_outcome.proofs.Joining.{bare_more}
use Rattle.dns_outcome.proofs.Signing.{part_none, part_more, part_all}
use Rattle.dns_outcome.proofs.JoinSteps.{no_sets, no_places}
use Rattle.dns_outcome.proofs.grouping.sets_in.Goals as goal

pub records-init : goal.records-init
records-init c = record {
  sets = c.new-sets.ensures.items ∙ sym no_sets;
  places = subst (ArePlaces c.new-places.result) (sym c.new-sets.ensures.items) (no_places c.new-places.result c.new-places.ensures);
}

pub records-preserved : goal.records-preserved
records-preserved c = record {
  sets = c.in_ok-meet.ensures.sets ∙ ap (met_by c.met-item.result) c.records.invariant.sets
      ∙ sym (bare_more c.args.section.now c.records.met-index c.met-item.result c.records-test.true c.met-item.is);
  places = c.in_ok-meet.ensures.places;
}

pub signatures-init : goal.signatures-init
signatures-init c = record {
  sets = c.records.invariant.sets ∙ part_none c.args.section.now c.records.met-index c.records-test.false;
  places = c.records.invariant.places;
}

pub signatures-preserved : goal.signatures-preserved
signatures-preserved c = record {
  sets = c.in_ok-give.ensures.sets ∙ ap (handed c.met-item-in-signatures.result) c.signatures.invariant.sets
      ∙ sym (part_more c.args.section.now c.signatures.met-index c.met-item-in-signatures.result c.signatures-test.true
      c.met-item-in-signatures.is);
  places = c.in_ok-give.ensures.places;
}

pub returns : goal.returns
returns c = c.signatures.invariant.sets ∙ part_all c.args.section.now c.signatures.met-index c.signatures-test.false
