use Rattle.std.proofs.Common.{length, ap, arith}
use Rattle.dns_model.proofs.LabelSteps.{length_name}
use Rattle.dns_record.proofs.name_ref.NameRef.label_count.Goals as goal

pub overflow_add-count : goal.overflow_add-count
overflow_add-count c = omega (arith, length_name c.args.self.now c.copy-rest.ensures.name, ap length c.in-Some.ensures, c.labels.invariant)

pub returns-clause-limit : goal.returns-clause-limit
returns-clause-limit c = omega (arith, length_name c.args.self.now c.copy-rest.ensures.name, c.labels.invariant)
