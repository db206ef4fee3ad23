-- For private functions of this crate only: values of the code as the definitions have them.
use Rattle.std.specs.Prelude.{List}
use Rattle.dns_model.specs.declared.trail.AskRef.{AskRef}
use Rattle.dns_rules.specs.Marks.{Verdict}
use Rattle.dns_trust.specs.Verdicts.{verdict_value}
use Rattle.dns_trail.specs.declared.verdicts.Tried.{Tried}

-- a verdict, and the asks that are left
abbrev pub tried_value : Tried → Verdict × List AskRef
tried_value tried = ((verdict_value tried.verdict).verdict, tried.left.now)
