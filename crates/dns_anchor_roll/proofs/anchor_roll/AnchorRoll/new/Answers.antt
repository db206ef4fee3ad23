use Rattle.std.proofs.Common.{◌∙◌, refl, ap}
use Rattle.std.specs.Prelude.{if◌then◌else◌}
use Rattle.dns_anchor_roll.specs.FollowedKeys.{is_given}
use Rattle.dns_anchor_roll.specs.Trust.{facts}
use Rattle.dns_anchor_roll.specs.declared.standing.Standing.TheVariants.{Trusted, Unknown}
use Rattle.dns_anchor_roll.proofs.Trusting.{table_begins}
use Rattle.dns_anchor_roll.proofs.anchor_roll.AnchorRoll.new.Goals as goal

pub returns : goal.returns
unfolding facts
returns g c = record {
  verifier = refl;
  zone = refl;
  table = table_begins c.args.keys.items c.in_ok-table.table (λ q. c.in_ok-table.ensures.known q ∙ ap (λ rdatas. if is_given rdatas q then Trusted else Unknown) c.deref.ensures.value) c.in_ok-table.ensures.shown
      c.in_ok-table.ensures.accepted c.in_ok-table.ensures.last;
}
