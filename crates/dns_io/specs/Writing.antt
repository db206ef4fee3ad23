-- What a writing leaves in a sink, where the sink tells its bytes, and how a run ends by it.
use Rattle.std.specs.Prelude.{ℕ, ◌≡◌, ◌≢◌, ◌≤◌, Bool, true, List, length, take, codes, Option}
use Rattle.std.specs.Io.KnownBytes.{Appends}
use Rattle.dns_model.specs.Counts.{Rose}

-- what is written of words that are no form
abbrev pub bad_words_text : List ℕ
bad_words_text = codes "bad words\n"

-- a prefix of the bytes was taken
pub record TakesPrefix (before now : Option (List ℕ)) (bytes : List ℕ) : Type 0 where
  pub count : ℕ
  pub bound : count ≤ length bytes
  pub taken : Appends before now (take count bytes)

-- how the writing of a text ends that is to end with the expected status: with that one, and all was taken; with 5 after a prefix of the
-- text, and the count of faults rose; or with 6 after a prefix, at a sink whose writes may want memory
pub data EndsWriting (status expected : ℕ) (takes_memory : Bool) (faults risen : ℕ) (before now : Option (List ℕ)) (text : List ℕ) : Type 0 where
  Written : status ≡ expected → Appends before now text → EndsWriting status expected takes_memory faults risen before now text
  WriteFailed : status ≡ 5 → Rose faults risen → TakesPrefix before now text
      → EndsWriting status expected takes_memory faults risen before now text
  MemoryRanOut : status ≡ 6 → takes_memory ≡ true → TakesPrefix before now text
      → EndsWriting status expected takes_memory faults risen before now text

-- a run that only writes a text: it ends with this status, which says that all was written, or at the sink or for want of memory,
-- after a prefix of the text
pub record WritesText (status expected : ℕ) (before now : Option (List ℕ)) (text : List ℕ) : Type 0 where
  pub ends : status ≢ 5 → status ≢ 6 → status ≡ expected
  pub whole : status ≡ expected → Appends before now text
  pub prefix : TakesPrefix before now text
