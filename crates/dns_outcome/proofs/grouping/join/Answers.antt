use Rattle.std.proofs.Common.{rules, ◌≡◌, length}
use Rattle.dns_outcome.proofs.JoinSteps.{place_at, joined_at, joined_places, joined_new, new_places}
use Rattle.dns_outcome.proofs.grouping.join.Goals as goal

pub index_mut-requires : goal.index_mut-requires
index_mut-requires c =
    let h = (place_at c.args.places.now c.args.sets.now.items c.args.met.now.owner c.args.met.now.rtype c.in-Some.place
    c.requires c.in-Some.ensures).within in
    search (rules, h)

pub returns-in_ok-add_record-in-Some-clause-sets : goal.returns-in_ok-add_record-in-Some-clause-sets
returns-in_ok-add_record-in-Some-clause-sets c =
    joined_at c.args.places.now c.args.sets.now.items c.args.met.now c.in_ok-next.next c.in-Some.place c.index_mut.result.now
    c.add_record.new.set
    c.requires c.in-Some.ensures c.index_mut.ensures.value c.in_ok-next.ensures c.in_ok-add_record-in-Some.ensures

pub returns-in_ok-add_record-in-Some-clause-places : goal.returns-in_ok-add_record-in-Some-clause-places
returns-in_ok-add_record-in-Some-clause-places c =
    joined_places c.args.places.now c.args.sets.now.items c.args.met.now.owner c.args.met.now.rtype c.in_ok-next.next
    c.in-Some.place c.index_mut.result.now c.add_record.new.set
    c.requires c.in-Some.ensures c.index_mut.ensures.value c.in_ok-add_record-in-Some.ensures

pub returns-in_ok-push-in-None-clause-sets : goal.returns-in_ok-push-in-None-clause-sets
returns-in_ok-push-in-None-clause-sets c =
    joined_new c.args.places.now c.args.sets.now.items c.push.new.self.items c.args.met.now c.in_ok-next.next c.in_ok-own-in-None.own
    c.requires c.in-None.ensures c.in_ok-push-in-None.ensures.items c.in_ok-own-in-None.ensures c.in_ok-next.ensures

pub returns-in_ok-push-in-None-clause-places : goal.returns-in_ok-push-in-None-clause-places
returns-in_ok-push-in-None-clause-places c =
    let last : c.len.result ≡ length c.args.sets.now.items = search (rules, c.len.ensures) in
    new_places c.args.places.now c.add_record-in-None.new.self c.args.sets.now.items c.push.new.self.items c.args.met.now
    c.in_ok-next.next c.in_ok-own-in-None.own c.len.result
    c.requires c.in_ok-add_record-in-None.ensures last c.in_ok-push-in-None.ensures.items c.in_ok-own-in-None.ensures c.in_ok-next.ensures
