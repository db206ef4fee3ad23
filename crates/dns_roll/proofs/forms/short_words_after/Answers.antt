use Rattle.dns_roll.proofs.Lengths.{second_short}
use Rattle.dns_roll.proofs.forms.short_words_after.Goals as goal

pub returns-clause-short : goal.returns-clause-short
returns-clause-short c = second_short c.args.word.now c.args.line.now _ _ c.in-Some.ensures
