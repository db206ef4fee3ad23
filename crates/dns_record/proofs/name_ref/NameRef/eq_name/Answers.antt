use Rattle.dns_model.proofs.NameLemmas.{name_eq-wire}
use Rattle.dns_record.proofs.name_ref.NameRef.eq_name.Goals as goal

pub returns : goal.returns
returns c = rw (← c.self.view_is, ← c.other.view_is)
    (name_eq-wire _ _ _ c.self.invariant c.other.invariant c.eq_ignore_ascii_case.ensures.test)
