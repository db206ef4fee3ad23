use Rattle.std.proofs.Common.{◌∙◌, None, refl, sym, ap}
use Rattle.std.specs.Prelude.{if◌then◌else◌}
use Rattle.dns_anchor_roll.specs.After.{is_before}
use Rattle.dns_anchor_roll.specs.Sightings.{SightingValue}
use Rattle.dns_anchor_roll.proofs.Rolls.{is_cause, is_no_cause, last_in}
use Rattle.dns_anchor_roll.proofs.anchor_roll.AnchorRoll.see.Goals as goal

pub returns-in-Some : goal.returns-in-Some
returns-in-Some g c = record {
  after = tt;
  seen = tt;
  rises = tt;
  earlier = λ start list is. is_cause _ list c.args.sighting.now.moment c.in-Some.last
      (last_in g.V.Verifier.answers start list c.args.self.now is) (ap (λ (s : SightingValue). if is_before c.args.self.now.table.last s.moment then c.args.self.now.table.last else None) (sym c.sighting.view_is) ∙ sym c.later_last.ensures ∙ c.in-Some.is);
  err = record {
    verifier = refl;
    zone = refl;
    table = record { known = λ q. refl; shown = λ q. refl; accepted = refl; last = refl };
  };
}

pub returns-in-Ok : goal.returns-in-Ok
returns-in-Ok g c = record {
  after = c.in-Ok.ensures.after;
  seen = c.in-Ok.ensures.seen;
  rises = λ start list is. is_no_cause _ list c.args.sighting.now.moment
      (last_in g.V.Verifier.answers start list c.args.self.now is) (ap (λ (s : SightingValue). if is_before c.args.self.now.table.last s.moment then c.args.self.now.table.last else None) (sym c.sighting.view_is) ∙ sym c.later_last.ensures ∙ c.in_default.is);
  earlier = tt;
  err = tt;
}

pub returns-in-Err : goal.returns-in-Err
returns-in-Err g c = record {
  after = tt;
  seen = tt;
  rises = tt;
  earlier = λ start list is. is_no_cause _ list c.args.sighting.now.moment
      (last_in g.V.Verifier.answers start list c.args.self.now is) (ap (λ (s : SightingValue). if is_before c.args.self.now.table.last s.moment then c.args.self.now.table.last else None) (sym c.sighting.view_is) ∙ sym c.later_last.ensures ∙ c.in_default.is);
  err = c.in-Err.ensures.err;
}
