use Rattle.dns_validation.proofs.RunLemmas.{comes_of, ends_of}
use Rattle.dns_validation.proofs.validation.Validation.into_answer.Goals as goal

pub returns-clause-comes : goal.returns-clause-comes
returns-clause-comes g c = rw (← c.self.view_is) (comes_of _ _ c.answer_in.result c.answer_in.ensures)

pub returns-clause-ends : goal.returns-clause-ends
returns-clause-ends g c = rw (← c.self.view_is) (ends_of _ _ c.answer_in.result c.answer_in.ensures)
