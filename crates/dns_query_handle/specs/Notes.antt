-- Notes of queries: what was asked, what that was answered, and how long it took.
use Rattle.std.specs.Prelude.{ℕ, ◌≡◌, ◌-◌, List, [], ◌∷◌, ◌++◌, Option, None, Some, Err}
use Rattle.dns_model.specs.Records.{Question}
use Rattle.dns_handle.specs.Errors as seen
use Rattle.dns_handle.specs.Errors.{Reply}
use Rattle.dns_handle.specs.Requests.{RequestValue, first_question}
use Rattle.dns_handle.specs.declared.handle.DnsHandle as handle
use Rattle.dns_retry.specs.Retries.{SendsRequest}

pub record NoteValue : Type 0 where
  pub question : Question
  pub reply : Reply
  -- milliseconds
  pub elapsed : ℕ

-- the note of a request: there is one if it asks something
abbrev pub note_of : Option Question → Reply → ℕ → List NoteValue
note_of None reply elapsed = []
note_of (Some q) reply elapsed = record { question = q; reply = reply; elapsed = elapsed } ∷ []

-- a send of a request between two readings of a stopwatch, so many milliseconds apart
pub record TimedSend {H T : Type 0} (meanings : handle.Ghosts H) (reads : T → ℕ → T → Type 0) (old : H) (watch : T)
    (request : RequestValue) (now : ℕ) (new : H) (new_watch : T) (reply : Reply) (elapsed : ℕ) : Type 0 where
  pub start : ℕ
  pub running : T
  pub started : reads watch start running
  pub sent : SendsRequest meanings request now old reply new
  pub end : ℕ
  pub ended : reads running end new_watch
  pub took : elapsed ≡ end - start

-- how a handle is asked and what is noted of it
pub data AsksNoted {H T : Type 0} (meanings : handle.Ghosts H) (reads : T → ℕ → T → Type 0) (old : H) (watch : T)
    (notes : List NoteValue) (request : RequestValue) (now : ℕ) (new : H) (new_watch : T) (new_notes : List NoteValue)
    (reply : Reply) : Type 0 where
  -- the answer is given and noted
  Noted : (elapsed : ℕ) → TimedSend meanings reads old watch request now new new_watch reply elapsed
      → new_notes ≡ notes ++ note_of (first_question request) reply elapsed
      → AsksNoted meanings reads old watch notes request now new new_watch new_notes reply
  -- memory ran out before the send, and nothing changed
  Unsent : new ≡ old → new_watch ≡ watch → new_notes ≡ notes → reply ≡ Err seen.NoMemory
      → AsksNoted meanings reads old watch notes request now new new_watch new_notes reply
  -- memory ran out for the note, and the answer isn't given
  Lost : (lost : Reply) (elapsed : ℕ) → TimedSend meanings reads old watch request now new new_watch lost elapsed → new_notes ≡ notes
      → reply ≡ Err seen.NoMemory
      → AsksNoted meanings reads old watch notes request now new new_watch new_notes reply
