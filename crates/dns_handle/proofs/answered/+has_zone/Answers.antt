use Rattle.std.proofs.Common.{rules}
use Rattle.dns_handle.specs.AnswerIndex.{has_at}
use Rattle.dns_handle.proofs.AnswerLemmas.{zone_here}
use Rattle.dns_handle.proofs.answered.+has_zone.Goals as goal

pub returns-then-branch : goal.returns-then-branch
returns-then-branch t c = zone_here (has_at c.args.index.now) c.args.name.now (search rules)
