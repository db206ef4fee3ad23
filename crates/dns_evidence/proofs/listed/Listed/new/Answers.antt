use Rattle.std.proofs.Common.{subst, sym}
use Rattle.dns_evidence.specs.Finding.{Covers}
use Rattle.dns_evidence.specs.Listing.{signature_number}
use Rattle.dns_evidence.proofs.ByteSets.{no_numbers}
use Rattle.dns_evidence.proofs.Found.{covers_none}
use Rattle.dns_evidence.proofs.listed.Listed.new.Goals as goal

pub invariant_of-result : goal.invariant_of-result
invariant_of-result c = (
  subst (Covers signature_number c.new-3.result) (sym c.new-2.ensures.items) (covers_none signature_number c.new-3.result),
  no_numbers c.new.result.items c.new.ensures,
)
