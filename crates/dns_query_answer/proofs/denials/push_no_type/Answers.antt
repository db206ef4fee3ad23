use Rattle.std.specs.Prelude.{codes}
use Rattle.dns_record.specs.Words.{type_word}
use Rattle.dns_query_answer.specs.DenialWords.{no_type_words}
use Rattle.dns_query_answer.proofs.PushLemmas.{pushed}
use Rattle.dns_query_answer.proofs.denials.push_no_type.Goals as goal

pub returns : goal.returns
unfolding no_type_words
returns c =
    pushed c.push_type.result c.args.into.now.items c.push_text.new.into.items c.push_type.new.text.items
    (codes "there is no ") (type_word c.args.record_type.0) c.in_ok-push_text.ensures.ok c.push_type.ensures.ok
