use Rattle.std.proofs.Common.{◌++◌, ◌∙◌, ap}
use Rattle.std.specs.Prelude.{codes}
use Rattle.std.proofs.lemmas.Result.{on_ok_weaker}
use Rattle.dns_query_answer.specs.Following.{denial_mark_words}
use Rattle.dns_query_answer.specs.SentenceWords.{title}
use Rattle.dns_query_answer.proofs.PushLemmas.{pushed}
use Rattle.dns_query_answer.proofs.following.push_denial_mark.Goals as goal

pub returns : goal.returns
unfolding denial_mark_words
returns c =
    pushed c.push_text-2.result c.args.into.now.items c.push_text.new.into.items c.push_text-2.new.into.items
    (codes " has no answer, and its denial is ") (title c.args.proof) c.in_ok-push_text.ensures.ok
    (on_ok_weaker c.push_text-2.result (λ told. told ∙ ap (λ l. c.push_text.new.into.items ++ l) c.title.ensures)
    c.push_text-2.ensures.ok)
