use Rattle.dns_model.proofs.NameLemmas.{lower-wire}
use Rattle.dns_record.proofs.name_ref.NameRef.folded.Goals as goal

pub returns : goal.returns
returns c = rw (← c.self.view_is, ← lower-wire _ c.self.invariant) c.lowered.ensures
