-- For private functions of this crate only: the judged sets of a step that has ended.
use Rattle.std.specs.Prelude.{Bool, ◌≡◌, ◌&&◌, List, [], Option, None, Some, map, if◌then◌else◌}
use Rattle.dns_model.specs.Trails.{AskedValue}
use Rattle.dns_rules.specs.ChainedSets.{ChainedSet, bare}
use Rattle.dns_rules.specs.Derivation.{if_answered, judged_sets}
use Rattle.dns_rules.specs.DerivationParts.{is_bare}
use Rattle.dns_rules.specs.MarkedSets.{MarkedSet}

-- the judged sets, and those of the answer, if the step has one
pub record EndedValue : Type 0 where
  pub answer : Option (List MarkedSet)
  pub sets : List MarkedSet

-- of a step that answered, or of one that didn't
abbrev pub ended_value : Option (List ChainedSet) → List ChainedSet → EndedValue
ended_value None others = record { answer = None; sets = bare others }
ended_value (Some sets) others = record { answer = Some (bare sets); sets = bare sets }

-- what a step came to
abbrev pub ended_of : AskedValue → EndedValue
ended_of step = record { answer = if_answered step.ending (judged_sets step); sets = judged_sets step }

-- what is known of steps is what they came to; an ask without an answer has none
pub record AreKnown (steps : List AskedValue) (known : List EndedValue) (unanswered : Option (List ChainedSet)) : Type 0 where
  pub ended : known ≡ map ended_of steps
  pub missing : unanswered ≡ None

-- something, where a test passes
abbrev pub some_if : {X : Type 0} → Bool → X → Option X
some_if b x = if b then Some x else None

-- what a step came to, where it holds
abbrev pub ended_if : Bool → AskedValue → Option EndedValue
ended_if holds step = some_if holds (ended_of step)

-- nothing is judged
abbrev pub nothing : EndedValue
nothing = record { answer = None; sets = [] }

-- a step nothing of which is judged, where its ending is the one that it may have
abbrev pub nothing_if : Bool → AskedValue → Option EndedValue
nothing_if is_so step = some_if (is_so && is_bare step) nothing
