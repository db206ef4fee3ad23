use Rattle.dns_outcome.proofs.PlaceLemmas.{placed_anew, placed_before}
use Rattle.dns_outcome.proofs.set_places.SetPlaces.add.Goals as goal

pub returns-in_ok-insert-in-None : goal.returns-in_ok-insert-in-None
returns-in_ok-insert-in-None c =
    placed_anew c.args.self.now (record { places = c.insert.new.self }) c.of-key.result c.args.owner.now c.args.record_type.0 c.args.place
    c.of-key.ensures c.in-None.ensures c.in_ok-insert-in-None.ensures.updates

pub returns-in-Some : goal.returns-in-Some
returns-in-Some c =
    placed_before c.args.self.now c.of-key.result c.args.owner.now c.args.record_type.0 c.args.place c.in-Some.field-0
    c.of-key.ensures c.in-Some.ensures
