-- For private functions of this crate only: the entry of a set, by its parts.
use Rattle.std.specs.Prelude.{ℕ, Bool, ◌≡◌, true, false, ◌==◌, ◌&&◌, List, take, Option}
use Rattle.std.specs.Option.{option_map, option_map_or}
use Rattle.std.specs.List.{list_any}
use Rattle.dns_model.specs.declared.trail.AskRef.{AskRef}
use Rattle.dns_model.specs.declared.trail.MarkOrigin.{MarkOrigin}
use Rattle.dns_model.specs.declared.trail.MarkOrigin.TheVariants.{Repeat}
use Rattle.dns_model.specs.Names.{name_eq}
use Rattle.dns_model.specs.Records.{RrSet, Question, question_eq}
use Rattle.dns_model.specs.SoundAnswers.{PlacedSet, section_eq}
use Rattle.dns_model.specs.Trails.{AskedValue, JudgedSetValue}
use Rattle.dns_model.specs.Chains.{Judge}
use Rattle.dns_rules.specs.CacheEntries.{EntryValue, is_live}
use Rattle.dns_rules.specs.ChainedSets.{ChainedSet}
use Rattle.dns_rules.specs.Derivation.{StepContext, is_repeat, is_served_by, judged_sets, verdicts_by}
use Rattle.dns_rules.specs.DerivationParts.{is_by_verdicts, with_entry}
use Rattle.dns_rules.specs.MarkedSets.{MarkedSet}
use Rattle.dns_rules.specs.Marks.{Verdict, most_signatures}
use Rattle.dns_trail.specs.Ended.{some_if}

-- the entry has the section, owner and type of the set
abbrev pub is_entry_of : PlacedSet → JudgedSetValue → Bool
is_entry_of placed entry =
    section_eq placed.section entry.section
    && (name_eq placed.set.owner entry.owner && (placed.set.rtype == entry.rtype))

-- a set without its chain, if there is one
abbrev pub judged_if : Option ChainedSet → Option MarkedSet
judged_if o = option_map (λ c. c.judged) o

-- a set with the mark of its entry, where a rule says that it follows
abbrev pub IsMarkedBy : (StepContext → PlacedSet → JudgedSetValue → Bool) → StepContext → PlacedSet → JudgedSetValue → Option ChainedSet
    → Type 0
IsMarkedBy follows g placed entry o = judged_if o ≡ some_if (follows g placed entry) (with_entry (placed, entry))

-- the verdicts of the first signatures of a set
abbrev pub verdicts_of_set : StepContext → RrSet → List AskRef → Option (List Verdict)
verdicts_of_set g set asks = verdicts_by g set (take most_signatures set.signatures) asks

-- the entry follows from these verdicts
abbrev pub is_by_signatures : StepContext → PlacedSet → JudgedSetValue → Bool
is_by_signatures g placed entry = is_by_verdicts placed entry (verdicts_of_set g placed.set entry.asked)

-- a step with this question found this of an equal set
abbrev pub repeats_from : Question → PlacedSet → JudgedSetValue → Option AskedValue → Bool
repeats_from q placed entry step =
    option_map_or (λ s. question_eq q s.query && list_any (is_repeat placed entry) (judged_sets s)) step false

-- an earlier step found the mark
abbrev pub is_repeated_by : MarkOrigin → Bool
is_repeated_by (Repeat number) = true
is_repeated_by _ = false

-- it did for some entry of a step, and of some step
abbrev pub step_repeats : AskedValue → Bool
step_repeats step = list_any (λ e. is_repeated_by e.origin) step.sets

abbrev pub has_repeats : List AskedValue → Bool
has_repeats steps = list_any step_repeats steps

-- at this moment the time of what was kept isn't up, and it serves the set with this entry
abbrev pub serves_at : ℕ → Judge → Question → PlacedSet → JudgedSetValue → EntryValue → Bool
serves_at now j q placed entry kept = is_live now kept && is_served_by j q placed entry kept
