use Rattle.std.specs.Prelude.{codes}
use Rattle.dns_model.specs.NameText.{printed}
use Rattle.dns_query_answer.specs.CauseWords.{neither_words}
use Rattle.dns_query_answer.proofs.PushLemmas.{pushed}
use Rattle.dns_query_answer.proofs.cause_words.push_neither.Goals as goal

pub returns : goal.returns
unfolding neither_words
returns c =
    pushed c.push_name.result c.args.into.now.items c.push_text.new.into.items c.push_name.new.into.items
    (codes "neither a DS record of ") (printed c.args.zone.now) c.in_ok-push_text.ensures.ok c.push_name.ensures
