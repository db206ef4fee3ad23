-- Where a set of a trail stands, with what is known of why it isn't Secure.
use Rattle.std.specs.Prelude.{ℕ, Bool, ◌==◌, ◌&&◌, List, [], Option, None, Some, slice_get, position}
use Rattle.std.specs.Option.{option_map, option_and_then, option_map_or}
use Rattle.dns_model.specs.Names.{name_eq}
use Rattle.dns_model.specs.SoundAnswers.{section_of, section_eq}
use Rattle.dns_model.specs.Records.{Rr}
use Rattle.dns_model.specs.Trails.{AskedValue, JudgedSetValue, HeardValue, Records, Fault}
use Rattle.dns_model.specs.declared.section.Section.{Section}
use Rattle.dns_model.specs.declared.trail.MarkOrigin.{MarkOrigin}
use Rattle.dns_model.specs.declared.trail.MarkOrigin.TheVariants.{Table, Repeat, Cache}
use Rattle.dns_rules.specs.ProofErrors.{ProofErrorKindValue}

-- a trail with the causes of its sets, step by step, and the moment at which they were judged
pub record Explained : Type 0 where
  pub moment : ℕ
  pub steps : List AskedValue
  pub causes : List (List (Option ProofErrorKindValue))

-- a set of a step, and its cause
pub record Place : Type 0 where
  pub step : AskedValue
  pub set : JudgedSetValue
  pub cause : Option ProofErrorKindValue

-- the cause at a place, if there is one
abbrev pub some_cause : Option (Option ProofErrorKindValue) → Option ProofErrorKindValue
some_cause None = None
some_cause (Some cause) = cause

abbrev pub cause_at : List (Option ProofErrorKindValue) → ℕ → Option ProofErrorKindValue
cause_at causes n = some_cause (slice_get causes n)

-- those of a step's sets, or none
abbrev pub causes_of : Explained → ℕ → List (Option ProofErrorKindValue)
causes_of g n = option_map_or (λ found. found) (slice_get g.causes n) []

-- the set of a step with a number
abbrev pub place_at : AskedValue → List (Option ProofErrorKindValue) → ℕ → Option Place
place_at step causes n = option_map (λ set. record { step = step; set = set; cause = cause_at causes n }) (slice_get step.sets n)

-- the first set of a step that passes a test
abbrev pub place_by : (JudgedSetValue → Bool) → AskedValue → List (Option ProofErrorKindValue) → Option Place
place_by test step causes = option_and_then (place_at step causes) (position test step.sets)

-- ---- a set that was judged before

abbrev pub same_judged_set : JudgedSetValue → JudgedSetValue → Bool
same_judged_set a b = section_eq a.section b.section && (name_eq a.owner b.owner && (a.rtype == b.rtype))

-- that set of the step with a number
abbrev pub place_in_step : Explained → JudgedSetValue → ℕ → Option Place
place_in_step g set n = option_and_then (λ step. place_by (same_judged_set set) step (causes_of g n)) (slice_get g.steps n)

abbrev pub origin_by : Explained → Place → MarkOrigin → Place
origin_by g p (Repeat n) = option_map_or (λ first. first) (place_in_step g p.set n) p
origin_by g p Table = p
origin_by g p Cache = p

-- where a set was judged by the rules: where it stands, or in the step that it repeats
unfoldable pub origin_place : Explained → Place → Place
origin_place g p = origin_by g p p.set.origin

-- ---- the records about a set

abbrev pub heard_section : HeardValue → Section → List Rr
heard_section (Records told empty) section = section_of told section
heard_section Fault section = []

-- those of the section that it stands in
abbrev pub records_beside : Place → List Rr
records_beside p = heard_section p.step.reply p.set.section
