use Rattle.std.proofs.Common.{sym, ◌∙◌}
use Rattle.dns_text.proofs.OctetLaws.{octets_short}
use Rattle.dns_roll.proofs.forms.short_octets_in.Goals as goal

pub returns-clause-short : goal.returns-clause-short
returns-clause-short c = octets_short c.args.word.now c.in-Some.bytes (sym c.in_ok-bytes.ensures ∙ c.in-Some.is)
