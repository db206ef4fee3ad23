-- What contracts see of a handle that notes: its parts, how it counts, and what its sends are.
use Rattle.std.specs.Prelude.{ℕ, ◌≡◌, List, Option}
use Rattle.dns_model.specs.Counts.{one_more}
use Rattle.dns_model.specs.Records.{Question}
use Rattle.dns_handle.specs.Causes.{faults_after}
use Rattle.dns_handle.specs.Errors.{Reply}
use Rattle.dns_handle.specs.Requests.{RequestValue, first_question}
use Rattle.dns_handle.specs.declared.handle.DnsHandle as handle
use Rattle.dns_query_handle.specs.Notes.{AsksNoted, NoteValue}
use Rattle.dns_query_handle.specs.declared.noting_handle.NotingHandle.{NotingHandle}

-- the handle that is asked, the stopwatch, and the notes
abbrev pub inner_of : {H T : Type 0} → NotingHandle H T → H
inner_of noting = noting.handle

abbrev pub watch_of : {H T : Type 0} → NotingHandle H T → T
watch_of noting = noting.watch

abbrev pub notes_of : {H T : Type 0} → NotingHandle H T → List NoteValue
notes_of noting = noting.notes.items

-- how many sends there were, and how many faults were answered
abbrev pub sends_of : {H T : Type 0} → NotingHandle H T → ℕ
sends_of noting = noting.sends

abbrev pub faults_of : {H T : Type 0} → NotingHandle H T → ℕ
faults_of noting = noting.faults

-- a send: the handle is asked, the answer is noted, and the send is counted
pub record NotesRequest {H T : Type 0} (meanings : handle.Ghosts H) (reads : T → ℕ → T → Type 0) (old : NotingHandle H T)
    (request : RequestValue) (now : ℕ) (new : NotingHandle H T) (reply : Reply) : Type 0 where
  pub asked : AsksNoted meanings reads (inner_of old) (watch_of old) (notes_of old) request now (inner_of new) (watch_of new)
      (notes_of new) reply
  pub sends : sends_of new ≡ one_more (sends_of old)
  pub faults : faults_of new ≡ faults_after (faults_of old) reply

-- the same of some request with a first question, at some moment
pub record NotesQuestion {H T : Type 0} (meanings : handle.Ghosts H) (reads : T → ℕ → T → Type 0) (old : NotingHandle H T)
    (q : Option Question) (new : NotingHandle H T) (reply : Reply) : Type 0 where
  pub request : RequestValue
  pub moment : ℕ
  pub asks : q ≡ first_question request
  pub is : NotesRequest meanings reads old request moment new reply
