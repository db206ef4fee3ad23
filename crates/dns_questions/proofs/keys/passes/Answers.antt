use Rattle.std.proofs.Common.{sym, ◌∙◌}
use Rattle.dns_questions.specs.Gathering.{judge_by}
use Rattle.dns_questions.proofs.QuestionLemmas.{invalid_fails, unsigned_fails, usable_passes}
use Rattle.dns_questions.proofs.keys.passes.Goals as goal

pub returns-then-not-is_valid : goal.returns-then-not-is_valid
returns-then-not-is_valid c =
    invalid_fails (judge_by c.args.context.now) c.args.signature.now.set.now c.args.signature.now.sig.now c.args.key.now
    c.args.signature.now.read.now c.args.read.now c.requires
    (sym c.is_valid.ensures ∙ c.if-not-is_valid.true)

pub returns-then-not-may_be_signed : goal.returns-then-not-may_be_signed
returns-then-not-may_be_signed c =
    unsigned_fails (judge_by c.args.context.now) c.args.signature.now.set.now c.args.signature.now.sig.now c.args.key.now
    c.args.signature.now.read.now c.args.read.now c.requires
    (sym c.is_valid.ensures ∙ c.if-not-is_valid.false) (sym c.may_be_signed.ensures ∙ c.if-not-may_be_signed.true)

pub returns : goal.returns
returns c =
    usable_passes (judge_by c.args.context.now) c.args.signature.now.set.now c.args.signature.now.sig.now c.args.key.now
    c.args.signature.now.read.now c.args.read.now _ c.requires
    (sym c.is_valid.ensures ∙ c.if-not-is_valid.false) (sym c.may_be_signed.ensures ∙ c.if-not-may_be_signed.false) c.is_usable.ensures
