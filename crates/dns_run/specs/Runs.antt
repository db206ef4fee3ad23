-- How a run ends: by its words, over a session (RFC 4035, 4.3 and 5.4), and over bytes that are none.
use Rattle.std.specs.Prelude.{ℕ, ◌≡◌, ◌≢◌, ◌≤◌, true, List, Option, None, Some, Ok, Err}
use Rattle.std.specs.Io.KnownBytes.{Appends}
use Rattle.dns_model.specs.SoundAnswers.{Told}
use Rattle.dns_rules.specs.Outcome.{foreign_record}
use Rattle.dns_handle.specs.Errors.{ErrorValue}
use Rattle.dns_lookup.specs.Causes.{has_response}
use Rattle.dns_report.specs.Faults.{fault_text}
use Rattle.dns_session.specs.SessionValue.{SessionValue}
use Rattle.dns_session.specs.Grammar.{session_of}
use Rattle.dns_session.specs.Stops.{bad_line_text}
use Rattle.dns_io.specs.Writing.{bad_words_text, WritesText}
use Rattle.dns_io.specs.Leaving.{Leaves}
use Rattle.dns_run.specs.declared.form.Form.{Form}
use Rattle.dns_run.specs.declared.form.Form.TheVariants.{Validate, Task, Bench, Ask, Help, Version}
use Rattle.dns_run.specs.Forms.{help_text, version_text}
use Rattle.dns_session_lookup.specs.Replies.{session_records}
use Rattle.dns_session_lookup.specs.Causes.{HasNoMessage, HasForeign}
use Rattle.dns_run.specs.Outcomes.{Refuses}
use Rattle.dns_run.specs.Benches.{WritesBench}

-- ---- by its words

-- how words end that ask for a text, for a lookup below nested zones, or for nothing; status 2 is for the latter alone
abbrev pub EndsByWords : Option Form → ℕ → Option (List ℕ) → Option (List ℕ) → Type 0
EndsByWords (Some (Validate how shows)) status before now = status ≢ 2
EndsByWords (Some (Task task)) status before now = status ≢ 2
EndsByWords (Some (Bench n)) status before now = WritesBench n status before now
EndsByWords (Some (Ask how explains protocol server)) status before now = status ≢ 2
EndsByWords (Some Help) status before now = WritesText status 0 before now help_text
EndsByWords (Some Version) status before now = WritesText status 0 before now version_text
EndsByWords None status before now = WritesText status 2 before now bad_words_text

-- ---- over a session

-- the status is this one, and this text was written; or it is 4 or more, with which any run may end
pub data EndsWith (status expected : ℕ) (before now : Option (List ℕ)) (text : List ℕ) : Type 0 where
  Ended : status ≡ expected → Appends before now text → EndsWith status expected before now text
  Stopped : 4 ≤ status → EndsWith status expected before now text

-- records are answered with a report, or with the line of a refused answer; or with 4 or more
pub data EndsAsAnswered (status : ℕ) (before now : Option (List ℕ)) : Type 0 where
  Reported : status ≡ 0 → EndsAsAnswered status before now
  Refused : (error : ErrorValue) → has_response (Err error) ≡ true → EndsWith status 1 before now (fault_text error)
      → EndsAsAnswered status before now
  Late : 4 ≤ status → EndsAsAnswered status before now

-- what a session must end with: without a message in reply to its query with that error's line, with a record of another class
-- with the line that names the first, and else with its report or the line of a refused answer, whatever nested asks meet
pub record EndsAsSession (s : SessionValue) (status : ℕ) (before now : Option (List ℕ)) : Type 0 where
  pub no_message : (error : ErrorValue) → HasNoMessage s error → EndsWith status 1 before now (fault_text error)
  pub other_class : (error : ErrorValue) → HasForeign s error → EndsWith status 1 before now (fault_text error)
  pub answered : (records : Told) → session_records s ≡ Some records → foreign_record s.query records ≡ None
      → EndsAsAnswered status before now

-- a fact of the session that told bytes are
abbrev pub IfSession : Option (List ℕ) → (SessionValue → Type 0) → Type 0
IfSession None Fact = Unit {0}
IfSession (Some bytes) Fact = (s : SessionValue) → session_of bytes ≡ Ok s → Fact s

-- ---- over bytes that are none

-- a fact of the first bad line, where told bytes are no session
abbrev pub IfBadLine : Option (List ℕ) → (ℕ → Type 0) → Type 0
IfBadLine None Fact = Unit {0}
IfBadLine (Some bytes) Fact = (number : ℕ) → session_of bytes ≡ Err number → Fact number

-- status 3 is answered only for an input that is no session, whose first bad line is named; and such an input ends so, or with 4
-- or more
pub record EndsByGrammar (status : ℕ) (told before now : Option (List ℕ)) : Type 0 where
  pub only : status ≡ 3 → Leaves Refuses told before now
  pub always : IfBadLine told (λ number. EndsWith status 3 before now (bad_line_text number))
