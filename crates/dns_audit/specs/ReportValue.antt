-- What a report says that is read again: an answer's code, denial, records and chains, and its trail, where the report has one.
use Rattle.std.specs.Prelude.{ℕ, Bool, List, Option}
use Rattle.dns_model.specs.declared.denial.Denial.{Denial}
use Rattle.dns_model.specs.declared.section.Section.{Section}
use Rattle.dns_model.specs.Records.{Rr, Question}
use Rattle.dns_model.specs.SoundAnswers.{ChainValue}
use Rattle.dns_model.specs.Trails.{AskedValue, EndingValue}
use Rattle.dns_model.specs.declared.trail.AskRef.{AskRef}

pub record ReportValue : Type 0 where
  pub code : ℕ
  pub denial : Denial
  pub answers : List Rr
  pub authorities : List Rr
  pub additionals : List Rr
  pub chains : List ChainValue
  pub trail : Option (List AskedValue)

-- ---- what single lines say

-- the line before a chain's links: the section of its set, and how many links follow
pub record ChainHead : Type 0 where
  pub section : Section
  pub count : ℕ

-- the line that begins a step: how deep it was asked, whether it was to be judged, and what was asked
pub record StepHead : Type 0 where
  pub depth : ℕ
  pub judged : Bool
  pub query : Question

-- the line that ends a step: its ending, and the asks on which that stands
pub record StepEnd : Type 0 where
  pub ending : EndingValue
  pub excuse : List AskRef

-- the line of a reply: its code, and whether it said that there are no records; or a fault
pub data GotValue : Type 0 where
  Code : (code : ℕ) (empty : Bool) → GotValue
  NoReply : GotValue
