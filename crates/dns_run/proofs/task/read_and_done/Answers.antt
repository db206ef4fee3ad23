use Rattle.std.proofs.Common.{rules, ◌<◌, IfSome, length}
use Rattle.dns_io.specs.Reading.{input_limit}
use Rattle.dns_run.proofs.TaskLemmas.{long_ends}
use Rattle.dns_run.proofs.task.read_and_done.Goals as goal

pub returns-in-Err-TooLong-clause-ends : goal.returns-in-Err-TooLong-clause-ends
returns-in-Err-TooLong-clause-ends g c =
    let long : IfSome (g.S.Source.left c.args.input.now) (λ left. input_limit < length left) = search rules in
    long_ends c.args.task _ _ _ _ c.refuse_long.ensures.least long c.refuse_long.ensures.prefix
