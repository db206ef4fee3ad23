use Rattle.std.proofs.Common.{rules, ◌≡◌, ◌<◌, IfSome, length}
use Rattle.dns_io.specs.Reading.{input_limit}
use Rattle.dns_run.proofs.AskLemmas.{read_asked, long_asked}
use Rattle.dns_run.proofs.server.ask.Goals as goal

pub returns-in-Ok-clause-ends : goal.returns-in-Ok-clause-ends
returns-in-Ok-clause-ends g c =
    let same : IfSome (g.S.Source.left c.args.input.now) (λ left. c.deref.result.now ≡ left) = search rules in
    read_asked _ c.args.given.dial c.answer_bytes.result.dial
    (g.S.Source.left c.args.input.now) c.deref.result.now c.answer_bytes.result.status _ _ same
    c.answer_bytes.ensures.ends c.answer_bytes.ensures.prefix

pub returns-in-Err-TooLong-clause-ends : goal.returns-in-Err-TooLong-clause-ends
returns-in-Err-TooLong-clause-ends g c =
    let long : IfSome (g.S.Source.left c.args.input.now) (λ left. input_limit < length left) = search rules in
    long_asked _ c.args.given.dial c.args.given.dial _ _ _ _
    c.refuse_long.ensures.least long c.refuse_long.ensures.prefix
