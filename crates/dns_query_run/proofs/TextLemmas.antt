-- What is written of a lookup, by what is seen of the call and of what it came to.
use Rattle.std.proofs.Common.{◌≡◌, ◌∙◌, ap, List, Option}
use Rattle.dns_model.specs.Chains.{judge}
use Rattle.dns_rules.specs.Asking.{Limits}
use Rattle.dns_rules.specs.ProofErrors.{ProofErrorKindValue}
use Rattle.dns_signatures.specs.Signatures.{ArithmeticValue, all_used, arithmetic_answers}
use Rattle.dns_query_answer.specs.AnswerText.{answer_causes, answer_text}
use Rattle.dns_query_lookup.specs.CallValues.{CallValue}
use Rattle.dns_query_lookup.specs.LookedValues.{LookedValue}
use Rattle.dns_query_run.specs.Answers.{call_limits, told_text}

pub told_is : (call seen : CallValue) (looked heard : LookedValue) (used : ArithmeticValue) (limits : Limits)
    (causes : List (List (Option ProofErrorKindValue))) → seen ≡ call → heard ≡ looked → used ≡ all_used
    → limits ≡ call_limits seen.depth
    → causes ≡ answer_causes (judge (arithmetic_answers used) heard.anchors seen.moment) limits heard.reply
    → answer_text seen.query seen.moment causes heard.reply ≡ told_text call looked
told_is call seen looked heard used limits causes call_is looked_is all within found =
    ap (λ k. answer_text seen.query seen.moment k heard.reply) found
    ∙ ap (λ u. answer_text seen.query seen.moment
    (answer_causes (judge (arithmetic_answers u) heard.anchors seen.moment) limits heard.reply) heard.reply) all
    ∙ ap (λ l. answer_text seen.query seen.moment
    (answer_causes (judge (arithmetic_answers all_used) heard.anchors seen.moment) l heard.reply) heard.reply) within
    ∙ ap (λ v. told_text v heard) call_is ∙ ap (λ v. told_text call v) looked_is
