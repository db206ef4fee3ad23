use Rattle.std.proofs.Common.{refl, ap, ◌∙◌}
use Rattle.dns_validation.specs.Machine.{begin}
use Rattle.dns_validation.proofs.ReachedLemmas.{reached_begun}
use Rattle.dns_validation.proofs.RunLemmas.{begun_run}
use Rattle.dns_validation.proofs.validation.begin.Goals as goal

pub invariant_of-result : goal.invariant_of-result
invariant_of-result g c = record {
  stands = reached_begun _ _ (begun_run _ _ _ refl (c.first_state-state.ensures ∙ ap begin c.in_ok-asked.ensures));
  accepted = c.new.ensures _;
}

pub returns-clause-run : goal.returns-clause-run
returns-clause-run g c = begun_run _ _ _ refl (c.first_state-state.ensures ∙ ap begin c.in_ok-asked.ensures)
