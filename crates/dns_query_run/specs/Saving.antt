-- What is saved of a lookup: a session in version 2 whose answer is the lookup's (docs/FORMATS.md, "The session").
use Rattle.std.specs.Prelude.{ℕ, ◌≡◌, ◌≤◌, ◌⊎◌, Bool, true, false, List, [], ◌∷◌, length, Some, Ok}
use Rattle.dns_io.specs.Reading.{input_limit}
use Rattle.dns_signatures.specs.Signatures.{all_used, arithmetic_answers}
use Rattle.dns_session.specs.Grammar.{session_of}
use Rattle.dns_saved_session.specs.Saved.{SavedReplyValue, SavedValue}
use Rattle.dns_saved_session.specs.SavedText.{saved_text, session_saved}
use Rattle.dns_saved_lookup.specs.Alike.{IsAnsweredSo}
use Rattle.dns_saved_lookup.specs.Heard.{IsSavedOf, IsUnsaid}
use Rattle.dns_saved_lookup.specs.Lookups.{LookupValue, saved_by}
use Rattle.dns_saved_lookup.specs.Refusals.{IsUnsaved}
use Rattle.dns_saved_lookup.specs.declared.save_error.SaveError.{SaveError}
use Rattle.dns_query_handle.specs.Notes.{NoteValue}
use Rattle.dns_query_lookup.specs.CallValues.{CallValue}
use Rattle.dns_query_lookup.specs.LookedValues.{LookedValue}
use Rattle.dns_query_run.specs.Complaints.{unsaved_complaint}

-- the algorithms whose signatures the program computes, by their numbers in the registry
abbrev pub computed_algorithms : List ℕ
computed_algorithms = 5 ∷ 7 ∷ 8 ∷ 10 ∷ 13 ∷ 14 ∷ 15 ∷ []

-- what is saved of each query that was noted, in the order in which they were sent
abbrev pub AreSavedOf : List NoteValue → List SavedReplyValue → Type 0
AreSavedOf [] [] = Unit {0}
AreSavedOf [] (reply ∷ replies) = ⊥
AreSavedOf (note ∷ notes) [] = ⊥
AreSavedOf (note ∷ notes) (reply ∷ replies) = IsSavedOf note.question note.reply reply × AreSavedOf notes replies

-- one of the notes can't be said by a session
abbrev pub HasUnsaid : SaveError → List NoteValue → Type 0
HasUnsaid why [] = ⊥
HasUnsaid why (note ∷ notes) = IsUnsaid note.reply why ⊎ HasUnsaid why notes

-- the lookup of a call, with what came for its queries
abbrev pub lookup_of : CallValue → LookedValue → List SavedReplyValue → LookupValue
lookup_of call looked replies = record {
  moment = call.moment;
  depth = Some call.depth;
  algorithms = computed_algorithms;
  anchors = looked.trusted.anchors;
  query = call.query;
  replies = replies;
  answer = looked.reply;
}

-- with the signatures that count by arithmetic
abbrev pub saved_of : CallValue → LookedValue → List SavedReplyValue → SavedValue
saved_of call looked replies = saved_by (arithmetic_answers all_used) (lookup_of call looked replies)

-- the text of a session that says what came for each query, and by whose own signatures the lookup's answer is found again
pub record IsSessionOf (call : CallValue) (looked : LookedValue) (text : List ℕ) : Type 0 where
  pub replies : List SavedReplyValue
  pub heard : AreSavedOf looked.notes replies
  pub says : text ≡ saved_text (saved_of call looked replies)
  pub reads : session_of text ≡ Ok (session_saved (saved_of call looked replies))
  pub fits : length text ≤ input_limit
  pub answers : IsAnsweredSo (session_saved (saved_of call looked replies)) looked.reply

-- why there is none: what came for a query can't be said, or the session would be too long, or have another answer
pub data HasNoSession (call : CallValue) (looked : LookedValue) (why : SaveError) : Type 0 where
  Unsaid : HasUnsaid why looked.notes → HasNoSession call looked why
  Refused : (replies : List SavedReplyValue) → AreSavedOf looked.notes replies
      → IsUnsaved (arithmetic_answers all_used) (lookup_of call looked replies) why → HasNoSession call looked why

-- what a call leaves behind that would end with a status, and what is said of that: nothing, where no file is named; the session; or where
-- there is none nothing, the status 5, and why
pub data Keeps (keeps : Bool) (call : CallValue) (looked : LookedValue) (expected status : ℕ) (saved lost : List ℕ) : Type 0 where
  Unasked : keeps ≡ false → status ≡ expected → saved ≡ [] → lost ≡ [] → Keeps keeps call looked expected status saved lost
  Kept : keeps ≡ true → status ≡ expected → IsSessionOf call looked saved → lost ≡ []
      → Keeps keeps call looked expected status saved lost
  Lost : (why : SaveError) → keeps ≡ true → HasNoSession call looked why → status ≡ 5 → saved ≡ [] → lost ≡ unsaved_complaint why
      → Keeps keeps call looked expected status saved lost
