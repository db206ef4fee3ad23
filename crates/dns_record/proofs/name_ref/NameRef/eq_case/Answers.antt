use Rattle.dns_model.proofs.NameLemmas.{same_bytes}
use Rattle.dns_record.proofs.name_ref.NameRef.eq_case.Goals as goal

pub returns : goal.returns
returns c =
    same_bytes _ _ _ c.wire.ensures.name c.wire-2.ensures.name (rw (← c.wire.ensures.value, ← c.wire-2.ensures.value) c.eq.ensures)
