use Rattle.std.proofs.Common.{◌≡◌, ◌||◌, false, rules, sym, ap, ◌∙◌, subst}
use Rattle.std.specs.Prelude.{IfOk}
use Rattle.std.specs.List.{list_any}
use Rattle.dns_handle.specs.AnswerIndex.{Indexes, takes_answers, answered_by, has_at}
use Rattle.dns_handle.proofs.AnswerLemmas.{contains_any, contains_found}
use Rattle.dns_handle.proofs.answered.contains_answer.Goals as goal

pub returns-then-takes_answers : goal.returns-then-takes_answers
returns-then-takes_answers c = sym (contains_any c.args.message.now (search rules))

pub returns : goal.returns
returns c =
    let index = c.in_ok-index.index in
    let message = c.args.message.now in
    let are : Indexes index message = search rules in
    let none : takes_answers message ≡ false = search rules in
    let queries : c.deref.result.now ≡ message.queries = search rules in
    let whole =
    ap (λ qs. list_any (answered_by (has_at index)) qs) queries
    ∙ ap (λ b. b || list_any (answered_by (has_at index)) message.queries) (sym none)
    ∙ sym (contains_found index message are) in
    subst (λ answered. IfOk c.answers_some.result (λ b. b ≡ answered)) whole c.answers_some.ensures
