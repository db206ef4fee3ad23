-- What a run promises that reads a source and writes a sink, whatever its texts are: when it ends with which status, what it reads,
-- and that counts never fall.
use Rattle.std.specs.Prelude.{ℕ, ◌≡◌, ◌≢◌, ◌+◌, ◌<◌, ◌≤◌, Bool, true, List, length, Option, IfSome}
use Rattle.std.specs.Io.KnownBytes.{Appends}
use Rattle.dns_model.specs.Counts.{Rose}
use Rattle.dns_io.specs.Reading.{input_limit, too_long_text, IsEnded, ReadsFront}

-- what a run is asked for
pub data Asked : Type 0 where
  -- a text that is always the same
  FixedText : Asked
  -- work without an input
  NoInput : Asked
  -- work on an input
  AnInput : Asked

-- status 7 is answered only for an input that is too long, which is said; and such an input ends so, at the source, at the sink
-- or for want of memory
pub record EndsByLength (status : ℕ) (told before now : Option (List ℕ)) : Type 0 where
  pub only : status ≡ 7 → IfSome told (λ left. input_limit < length left)
  pub written : status ≡ 7 → Appends before now too_long_text
  pub always : IfSome told (λ left. input_limit < length left → 4 ≤ status)

-- what a call keeps that writes a sink and reads nothing, and ends a run with its status
pub record KeepsSink {W : Type 0} (faults : W → ℕ) (status : ℕ) (before now : W) : Type 0 where
  -- 4 and 7 are answered only where an input is read
  pub no_read : status ≢ 4
  pub most : status ≤ 6
  -- 5 is answered only where the count of failed writes rose
  pub sink : status ≡ 5 → Rose (faults before) (faults now)
  -- that count never falls
  pub later : faults before ≤ faults now

-- what is seen of a source and a sink: the bytes that are left, how many reads have failed, the bytes that were taken, how many
-- writes have failed, and whether a write may want memory
pub record Outside (S W : Type 0) : Type 0 where
  pub left : S → Option (List ℕ)
  pub failed_reads : S → ℕ
  pub taken : W → Option (List ℕ)
  pub failed_writes : W → ℕ
  pub takes_memory : Bool

abbrev pub outside : {S W : Type 0} → (S → Option (List ℕ)) → (S → ℕ) → (W → Option (List ℕ)) → (W → ℕ) → Bool → Outside S W
outside left failed_reads taken failed_writes takes_memory = record {
  left = left;
  failed_reads = failed_reads;
  taken = taken;
  failed_writes = failed_writes;
  takes_memory = takes_memory;
}

-- what a run keeps over a source and a sink, by what it is asked for and its status
pub record KeepsOutside {S W : Type 0} (seen : Outside S W) (asked : Asked) (status : ℕ) (full rest : S) (before now : W) : Type 0 where
  -- no status is above 7
  pub most : status ≤ 7
  -- 4 is answered only where the count of failed reads rose
  pub source : status ≡ 4 → Rose (seen.failed_reads full) (seen.failed_reads rest)
  -- and then nothing was written
  pub untouched : status ≡ 4 → now ≡ before
  -- 5 is answered only where the count of failed writes rose
  pub sink : status ≡ 5 → Rose (seen.failed_writes before) (seen.failed_writes now)
  -- where a fixed text is asked for, 6 is answered only over a sink whose writes may want memory
  pub memory : asked ≡ FixedText → status ≡ 6 → seen.takes_memory ≡ true
  -- 7, and an input that is too long
  pub length : asked ≡ AnInput → EndsByLength status (seen.left full) (seen.taken before) (seen.taken now)
  -- where no input is asked for, none is read
  pub unread : asked ≢ AnInput → rest ≡ full
  -- an input that is answered or refused was read to its end
  pub ended : asked ≡ AnInput → status < 4 → IsEnded (seen.left full) (seen.left rest)
  -- one byte past the limit is the most that is read
  pub reads : ReadsFront (input_limit + 1) (seen.left full) (seen.left rest)
  -- the counts never fall
  pub read_later : seen.failed_reads full ≤ seen.failed_reads rest
  pub later : seen.failed_writes before ≤ seen.failed_writes now
