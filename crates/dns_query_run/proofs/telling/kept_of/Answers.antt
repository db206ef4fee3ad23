use Rattle.std.proofs.Common.{refl}
use Rattle.dns_query_run.specs.Saving.{Lost}
use Rattle.dns_query_run.proofs.telling.kept_of.Goals as goal

pub returns-in_ok-unsaved_line-in-Err-clause-keeps : goal.returns-in_ok-unsaved_line-in-Err-clause-keeps
returns-in_ok-unsaved_line-in-Err-clause-keeps c =
    Lost c.in-Err.why c.if-not-keeps.false c.in-Err.ensures.none refl c.new-in-Err.ensures.items
    c.in_ok-unsaved_line-in-Err.ensures
