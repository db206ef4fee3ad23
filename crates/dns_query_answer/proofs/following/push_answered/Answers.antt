use Rattle.std.specs.Prelude.{codes}
use Rattle.dns_query_answer.specs.Following.{answered_words}
use Rattle.dns_query_answer.specs.SentenceWords.{code_words}
use Rattle.dns_query_answer.proofs.PushLemmas.{pushed}
use Rattle.dns_query_answer.proofs.following.push_answered.Goals as goal

pub returns : goal.returns
unfolding answered_words
returns c =
    pushed c.push_code.result c.args.into.now.items c.push_text.new.into.items c.push_code.new.into.items
    (codes " was answered with ") (code_words c.args.code.0) c.in_ok-push_text.ensures.ok c.push_code.ensures
