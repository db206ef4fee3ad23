-- What a run of the forwarder keeps over its source and its sink, whatever its texts are.
use Rattle.std.specs.Prelude.{ℕ, ◌≡◌, ◌≢◌, ◌+◌, ◌<◌, ◌≤◌, true}
use Rattle.dns_model.specs.Counts.{Rose}
use Rattle.dns_io.specs.Reading.{input_limit, IsEnded, ReadsFront}
use Rattle.dns_io.specs.Runs.{Asked, AnInput, EndsByLength, FixedText, Outside}

-- as a run that only reads and writes, but that status 4 isn't for failed reads alone
pub record KeepsForward {S W : Type 0} (seen : Outside S W) (asked : Asked) (status : ℕ) (full rest : S) (before now : W) : Type 0 where
  -- no status is above 7
  pub most : status ≤ 7
  -- with 4 nothing was written
  pub untouched : status ≡ 4 → now ≡ before
  -- 5 is answered only where the count of failed writes rose
  pub sink : status ≡ 5 → Rose (seen.failed_writes before) (seen.failed_writes now)
  -- where a fixed text is asked for, 6 is answered only over a sink whose writes may want memory
  pub memory : asked ≡ FixedText → status ≡ 6 → seen.takes_memory ≡ true
  -- 7, and an input that is too long
  pub length : asked ≡ AnInput → EndsByLength status (seen.left full) (seen.taken before) (seen.taken now)
  -- where no input is asked for, none is read
  pub unread : asked ≢ AnInput → rest ≡ full
  -- an input that is answered or refused was read to its end
  pub ended : asked ≡ AnInput → status < 4 → IsEnded (seen.left full) (seen.left rest)
  -- one byte past the limit is the most that is read
  pub reads : ReadsFront (input_limit + 1) (seen.left full) (seen.left rest)
  -- the counts never fall
  pub read_later : seen.failed_reads full ≤ seen.failed_reads rest
  pub later : seen.failed_writes before ≤ seen.failed_writes now
