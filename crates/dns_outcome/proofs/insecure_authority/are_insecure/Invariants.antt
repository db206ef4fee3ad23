use Rattle.std.proofs.Common.{◌≡◌, ◌||◌, true, take}
use Rattle.std.specs.List.{list_all}
use Rattle.dns_model.specs.Sections.{is_signature}
use Rattle.dns_rules.specs.ChainedSets.{bare}
use Rattle.dns_rules.specs.Outcome.{is_insecure_record}
use Rattle.dns_outcome.proofs.insecure_authority.are_insecure.Given as goal

abbrev pub invariant-loop-found : goal.invariant-loop-found
invariant-loop-found l = list_all (λ r. is_signature r || is_insecure_record l.query (bare l.sets) r) (take l.found-index l.records) ≡ true
