-- How a run ends by what its arguments come to and by its sinks: what was written to which, with which status, and why not all of it.
use Rattle.std.specs.Prelude.{ℕ, ◌≡◌, ◌≤◌, Bool, true, List, codes, Option}
use Rattle.std.specs.Io.KnownBytes.{Appends}
use Rattle.dns_model.specs.Counts.{Rose}
use Rattle.dns_io.specs.Writing.{TakesPrefix}
use Rattle.dns_io.specs.declared.sink.SinkFault.{SinkFault}
use Rattle.dns_io.specs.declared.sink.SinkFault.TheVariants.{Failed, NoMemory}
use Rattle.dns_query_run.specs.Told.{ToldValue}
use Rattle.dns_query_run.specs.declared.unwritten.Unwritten.{Unwritten}
use Rattle.dns_query_run.specs.declared.unwritten.Unwritten.TheVariants.{Output, Session}

-- ---- a sink

-- a sink before and after: the bytes that it took, how many writes failed, and whether a write may want memory
pub record SinkMet (W : Type 0) : Type 0 where
  pub taken : W → Option (List ℕ)
  pub faults : W → ℕ
  pub takes_memory : Bool
  pub old : W
  pub new : W

abbrev pub sink_met : {W : Type 0} → (W → Option (List ℕ)) → (W → ℕ) → Bool → W → W → SinkMet W
sink_met taken faults takes_memory old new = record {
  taken = taken;
  faults = faults;
  takes_memory = takes_memory;
  old = old;
  new = new;
}

-- all of a text was written
abbrev pub Took : {W : Type 0} → SinkMet W → List ℕ → Type 0
Took met text = Appends (met.taken met.old) (met.taken met.new) text

-- a write failed, which was counted, or wanted memory
abbrev pub HasCause : {W : Type 0} → SinkFault → SinkMet W → Type 0
HasCause Failed met = Rose (met.faults met.old) (met.faults met.new)
HasCause NoMemory met = met.takes_memory ≡ true

-- for such a cause a prefix of a text was written
pub record IsCutShort {W : Type 0} (fault : SinkFault) (met : SinkMet W) (text : List ℕ) : Type 0 where
  pub cause : HasCause fault met
  pub part : TakesPrefix (met.taken met.old) (met.taken met.new) text

-- ---- the standard error

-- what is said: all of a text, or a prefix of it
pub data Says {Z : Type 0} (met : SinkMet Z) (text : List ℕ) : Type 0 where
  Said : Took met text → Says met text
  CutShort : (fault : SinkFault) → IsCutShort fault met text → Says met text

-- one text after another
pub record SaysBoth {Z : Type 0} (met : SinkMet Z) (first second : List ℕ) : Type 0 where
  pub mid : Z
  pub begins : Says (record met { new = mid }) first
  pub ends : Says (record met { old = mid }) second

-- ---- what wasn't written

-- 5 where a write failed, 6 where memory ran out
abbrev pub fault_status : SinkFault → ℕ
fault_status Failed = 5
fault_status NoMemory = 6

abbrev pub unwritten_status : Unwritten → ℕ
unwritten_status (Output fault) = fault_status fault
unwritten_status (Session fault) = fault_status fault

abbrev pub memory_complaint : List ℕ
memory_complaint = codes "dns_query: out of memory\n"

abbrev pub unwritten_complaint : Unwritten → List ℕ
unwritten_complaint (Output Failed) = codes "dns_query: can't write to the standard output\n"
unwritten_complaint (Session Failed) = codes "dns_query: can't write the session\n"
unwritten_complaint (Output NoMemory) = memory_complaint
unwritten_complaint (Session NoMemory) = memory_complaint

-- the output comes first: the file is left as it was where a write to it failed
abbrev pub IsUnwritten : {W S : Type 0} → Unwritten → ToldValue → SinkMet W → SinkMet S → Type 0
IsUnwritten (Output fault) told output saved = IsCutShort fault output told.text × (saved.new ≡ saved.old)
IsUnwritten (Session fault) told output saved = Took output told.text × IsCutShort fault saved told.saved

-- ---- how a run ends

-- how the writing of what a call came to ends: with its status, and each part stands in its own place; or with 5 or 6, which is said behind
-- its complaint
pub data EndsTold {W S Z : Type 0} (told : ToldValue) (output : SinkMet W) (saved : SinkMet S) (errors : SinkMet Z) (status : ℕ)
    : Type 0 where
  Whole : status ≡ told.status → Took output told.text → Took saved told.saved → Says errors told.complaint
      → EndsTold told output saved errors status
  Part : (stop : Unwritten) → status ≡ unwritten_status stop → IsUnwritten stop told output saved
      → SaysBoth errors told.complaint (unwritten_complaint stop) → EndsTold told output saved errors status

-- how a run ends whose arguments come to something; or memory ran out before that is known, and nothing is written
pub data EndsRun {W S Z : Type 0} (Tells : ToldValue → Type 0) (output : SinkMet W) (saved : SinkMet S) (errors : SinkMet Z) (status : ℕ)
    : Type 0 where
  Came : (told : ToldValue) → Tells told → EndsTold told output saved errors status → EndsRun Tells output saved errors status
  OutOfMemory : status ≡ 6 → output.new ≡ output.old → saved.new ≡ saved.old → Says errors memory_complaint
      → EndsRun Tells output saved errors status

-- what a run keeps whatever its arguments are
pub record KeepsSinks {W S Z : Type 0} (output : SinkMet W) (saved : SinkMet S) (errors : SinkMet Z) (status : ℕ) : Type 0 where
  -- no status is above 6
  pub most : status ≤ 6
  -- counts of failed writes never fall
  pub later : output.faults output.old ≤ output.faults output.new
  pub saved_later : saved.faults saved.old ≤ saved.faults saved.new
  pub errors_later : errors.faults errors.old ≤ errors.faults errors.new
