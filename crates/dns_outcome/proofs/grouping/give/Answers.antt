use Rattle.std.proofs.Common.{rules}
use Rattle.dns_model.specs.RecordViews.{rrsig_of}
use Rattle.dns_outcome.proofs.JoinSteps.{covered_within, given_at, given_places, none_given}
use Rattle.dns_outcome.proofs.grouping.give.Goals as goal

pub index_mut-requires : goal.index_mut-requires
index_mut-requires c =
    let h = covered_within c.args.places.now c.args.sets.now.items c.args.met.now.owner (rrsig_of c.args.met.now)
    c.in-Some.place c.requires c.in-Some.ensures in
    search (rules, h)

pub returns-in_ok-add_signature-in-Some-clause-sets : goal.returns-in_ok-add_signature-in-Some-clause-sets
returns-in_ok-add_signature-in-Some-clause-sets c =
    given_at c.args.places.now c.args.sets.now.items c.args.met.now c.in_ok-next-in-Some.next (rrsig_of c.args.met.now) c.in-Some.place
    c.index_mut.result.now c.add_signature.new.set c.requires c.in-Some.ensures c.index_mut.ensures.value
    c.in_ok-next-in-Some.ensures c.in_ok-add_signature-in-Some.ensures

pub returns-in_ok-add_signature-in-Some-clause-places : goal.returns-in_ok-add_signature-in-Some-clause-places
returns-in_ok-add_signature-in-Some-clause-places c =
    given_places c.args.places.now c.args.sets.now.items c.args.met.now.owner c.in_ok-next-in-Some.next
    (rrsig_of c.args.met.now) c.in-Some.place
    c.index_mut.result.now c.add_signature.new.set c.requires c.in-Some.ensures c.index_mut.ensures.value
    c.in_ok-add_signature-in-Some.ensures

pub returns-in-None-clause-sets : goal.returns-in-None-clause-sets
returns-in-None-clause-sets c =
    none_given c.args.places.now c.args.sets.now.items c.args.met.now (rrsig_of c.args.met.now) c.requires c.in-None.ensures
