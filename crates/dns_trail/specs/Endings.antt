-- For private functions of this crate only: the ending of a step by its parts.
use Rattle.std.specs.Prelude.{Bool, false, ◌&&◌, List}
use Rattle.std.specs.Option.{option_map_or}
use Rattle.dns_model.specs.declared.trail.AskRef.{AskRef}
use Rattle.dns_model.specs.Trails.{EndingValue, Answered, Denied}
use Rattle.dns_model.specs.SoundAnswers.{Told}
use Rattle.dns_rules.specs.Derivation.{StepContext, is_empty, ending_eq, ending_by, search_from}
use Rattle.dns_rules.specs.Outcome.{Outcome, Given, NeedsZone, outcome_by_zone}
use Rattle.dns_rules.specs.Outcome as outcome
use Rattle.dns_rules.specs.Unsigned.{question_start}

-- the ending and its asks follow from the outcome
abbrev pub ending_fits : StepContext → Told → Outcome → EndingValue → List AskRef → Bool
ending_fits g told (Given d) ending excuse = ending_eq (Answered d) ending && is_empty excuse
ending_fits g told (outcome.Denied proof) ending excuse = ending_eq (Denied proof) ending && is_empty excuse
ending_fits g told NeedsZone ending excuse =
    option_map_or (λ zone. ending_eq (ending_by (outcome_by_zone g.query told zone)) ending)
    (search_from g g.query.class (question_start g.query) excuse) false
