use Rattle.dns_model.proofs.NameLemmas.{lower-wire}
use Rattle.dns_record.proofs.name_ref.NameRef.push_folded.Goals as goal

pub returns-clause-ok : goal.returns-clause-ok
returns-clause-ok c = rw (← c.self.view_is, ← lower-wire _ c.self.invariant) c.push_lowered.ensures.ok
