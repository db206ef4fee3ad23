-- The steps that a validation adds to its trail, and the answer that it ends with.
use Rattle.std.specs.Prelude.{ℕ, Bool, true, false, List, [], ◌∷◌, ◌++◌, Option, None, Some, Ok, Err}
use Rattle.dns_model.specs.declared.denial.Denial.TheVariants as denial
use Rattle.dns_model.specs.declared.proof.Proof.{Proof}
use Rattle.dns_model.specs.declared.proof.Proof.TheVariants.{Bogus}
use Rattle.dns_model.specs.declared.trail.AskRef.{AskRef}
use Rattle.dns_model.specs.Records.{Rr, Question, MessageValue}
use Rattle.dns_model.specs.SoundAnswers.{Told, told_by}
use Rattle.dns_model.specs.Trails.{AskedValue, HeardValue, JudgedSetValue, EndingValue, Records, Answered, Denied}
use Rattle.dns_model.specs.Trails as trails
use Rattle.dns_rules.specs.ChainedSets.{ChainedSet, finished}
use Rattle.dns_rules.specs.Outcome.{Outcome, Given, NeedsZone}
use Rattle.dns_rules.specs.Outcome as outcome
use Rattle.dns_handle.specs.Errors as seen
use Rattle.dns_handle.specs.Errors.{Reply}

-- ---- a step

-- a judged step, with the asks that it names for its ending
abbrev pub judged_step : ℕ → Question → HeardValue → List JudgedSetValue → EndingValue → List AskRef → AskedValue
judged_step depth q reply sets ending excuse = record {
  depth = depth;
  judged = true;
  query = q;
  reply = reply;
  sets = sets;
  ending = ending;
  excuse = excuse;
}

-- a step that only sees what it hears
abbrev pub plain_step : ℕ → Question → HeardValue → EndingValue → AskedValue
plain_step depth q reply ending = record {
  depth = depth;
  judged = false;
  query = q;
  reply = reply;
  sets = [];
  ending = ending;
  excuse = [];
}

-- the ending that names a record of another class
abbrev pub foreign_ending : Rr → EndingValue
foreign_ending r = trails.Foreign r.owner r.class r.rtype

-- the sets of a step whose answer is given
abbrev pub given_sets : {X : Type 0} → Outcome → List X → Option (List X)
given_sets (Given d) sets = Some sets
given_sets NeedsZone sets = None
given_sets (outcome.Denied proof) sets = None

-- ---- the answer

-- what was judged of the message that the first ask got: the steps of the asks, the sets and their entries, and what they come to
pub record Findings : Type 0 where
  pub message : MessageValue
  pub empty : Bool
  pub steps : List AskedValue
  pub sets : List ChainedSet
  pub entries : List JudgedSetValue
  pub outcome : Outcome
  pub excuse : List AskRef

-- the last step of a trail: the query, what was heard and whether it said that there are no records, the sets as they were
-- judged, and the asks on which its ending stands
abbrev pub top_of : Question → Told → Bool → List JudgedSetValue → EndingValue → List AskRef → AskedValue
top_of q told empty entries ending excuse = judged_step 0 q (Records told empty) entries ending excuse

abbrev pub trail_of : Question → Findings → EndingValue → List AskedValue
trail_of q found ending = found.steps ++ top_of q (told_by found.message) found.empty found.entries ending found.excuse ∷ []

-- the error that denies an answer, with the answer inside
abbrev pub denied_by : ℕ → Question → Findings → Proof → Reply
denied_by now q found p =
    Err (seen.Dns (seen.Nsec q (finished now found.sets found.message denial.None (trail_of q found (Denied p))) p))

-- the answer by the outcome of its last step; a search never is its outcome
abbrev pub answer_by : ℕ → Question → Findings → Outcome → Reply
answer_by now q found (Given d) = Ok (finished now found.sets found.message d (trail_of q found (Answered d)))
answer_by now q found NeedsZone = denied_by now q found Bogus
answer_by now q found (outcome.Denied p) = denied_by now q found p

-- the answer that the judged sets of a message make
abbrev pub judged_answer : ℕ → Question → Findings → Reply
judged_answer now q found = answer_by now q found found.outcome
