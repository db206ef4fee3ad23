use Rattle.std.proofs.Common.{◌≡◌, take, false}
use Rattle.std.specs.Prelude.{not}
use Rattle.std.specs.List.{list_any}
use Rattle.dns_model.specs.Sections.{is_signature}
use Rattle.dns_outcome.proofs.insecure_authority.has_unsigned.Given as goal

-- the records so far are signatures
abbrev pub invariant-loop-found : goal.invariant-loop-found
invariant-loop-found l = list_any (λ r. not (is_signature r)) (take l.found-index l.records) ≡ false
