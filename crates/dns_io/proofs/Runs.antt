-- What a run keeps, out of what its parts do.
use Rattle.std.proofs.Common.{◌≡◌, ◌≢◌, ◌+◌, ◌<◌, ◌≤◌, ℕ, true, List, Option, None, Some, IfSome, length, refl, ap, arith}
use Rattle.std.specs.Io.KnownBytes.{Appends}
use Rattle.dns_model.specs.Counts.{Rose}
use Rattle.dns_io.specs.Reading.{input_limit, too_long_text, IsEnded, ReadsFront}
use Rattle.dns_io.specs.Runs.{Outside, Asked, FixedText, AnInput, KeepsSink, KeepsOutside}
use Rattle.dns_io.proofs.Leaving.{nothing_read}

-- no input was read
pub keeps_unread : {S W : Type 0} (seen : Outside S W) (asked : Asked) (status : ℕ) (full : S) (before now : W) → asked ≢ AnInput
    → (asked ≡ FixedText → status ≡ 6 → seen.takes_memory ≡ true) → KeepsSink seen.failed_writes status before now
    → KeepsOutside seen asked status full full before now
keeps_unread seen asked status full before now none memory keeps = record {
  most = omega (arith, keeps.most);
  source = λ is. absurd (keeps.no_read is);
  untouched = λ is. absurd (keeps.no_read is);
  sink = keeps.sink;
  memory = memory;
  length = λ is. absurd (none is);
  unread = λ is. refl;
  ended = λ is below. absurd (none is);
  reads = nothing_read (input_limit + 1) (seen.left full);
  read_later = omega arith;
  later = keeps.later;
}

-- what was told isn't too long
not_long : (told : Option (List ℕ)) (bytes : List ℕ) (status : ℕ) → length bytes ≤ input_limit
    → IfSome told (λ left. bytes ≡ left)
    → IfSome told (λ left. input_limit < length left → 4 ≤ status)
not_long None bytes status fits same = tt
not_long (Some left) bytes status fits same = λ long. absurd (omega (arith, ap length same))

-- an input was read to its end, and answered
pub keeps_answered : {S W : Type 0} (seen : Outside S W) (status : ℕ) (full rest : S) (before now : W) (bytes : List ℕ)
    → length bytes ≤ input_limit
    → IfSome (seen.left full) (λ told. bytes ≡ told) → IsEnded (seen.left full) (seen.left rest)
    → ReadsFront (input_limit + 1) (seen.left full) (seen.left rest)
    → seen.failed_reads full ≤ seen.failed_reads rest → KeepsSink seen.failed_writes status before now
    → KeepsOutside seen AnInput status full rest before now
keeps_answered seen status full rest before now bytes fits same end front later keeps = record {
  most = omega (arith, keeps.most);
  source = λ is. absurd (keeps.no_read is);
  untouched = λ is. absurd (keeps.no_read is);
  sink = keeps.sink;
  memory = λ is. absurd cc;
  length = λ is. record {
    only = λ long. absurd (omega (arith, keeps.most));
    written = λ long. absurd (omega (arith, keeps.most));
    always = not_long (seen.left full) bytes status fits same;
  };
  unread = λ other. absurd (other refl);
  ended = λ is below. end;
  reads = front;
  read_later = later;
  later = keeps.later;
}

-- an input wasn't read to its end, and nothing was written
pub keeps_stopped : {S W : Type 0} (seen : Outside S W) (status : ℕ) (full rest : S) (before : W) → 4 ≤ status → status ≢ 5 → status ≤ 6
    → (status ≡ 4 → Rose (seen.failed_reads full) (seen.failed_reads rest)) → ReadsFront (input_limit + 1) (seen.left full) (seen.left rest)
    → seen.failed_reads full ≤ seen.failed_reads rest
    → KeepsOutside seen AnInput status full rest before before
keeps_stopped seen status full rest before least other most source front later = record {
  most = omega arith;
  source = source;
  untouched = λ is. refl;
  sink = λ is. absurd (other is);
  memory = λ is. absurd cc;
  length = λ is. record {
    only = λ long. absurd (omega arith);
    written = λ long. absurd (omega arith);
    always = late (seen.left full);
  };
  unread = λ other. absurd (other refl);
  ended = λ is below. absurd (omega arith);
  reads = front;
  read_later = later;
  later = omega arith;
}
  where
    late : (told : Option (List ℕ)) → IfSome told (λ bytes. input_limit < length bytes → 4 ≤ status)
    late None = tt
    late (Some bytes) = λ long. least

-- an input is too long, which was said
pub keeps_long : {S W : Type 0} (seen : Outside S W) (status : ℕ) (full rest : S) (before now : W) → 5 ≤ status → status ≤ 7
    → (status ≡ 5 → Rose (seen.failed_writes before) (seen.failed_writes now))
    → (status ≡ 7 → Appends (seen.taken before) (seen.taken now) too_long_text)
    → seen.failed_writes before ≤ seen.failed_writes now → IfSome (seen.left full) (λ told. input_limit < length told)
    → ReadsFront (input_limit + 1) (seen.left full) (seen.left rest) → seen.failed_reads full ≤ seen.failed_reads rest
    → KeepsOutside seen AnInput status full rest before now
keeps_long seen status full rest before now least most sink written later long front read_later = record {
  most = most;
  source = λ is. absurd (omega arith);
  untouched = λ is. absurd (omega arith);
  sink = sink;
  memory = λ is. absurd cc;
  length = λ is. record {
    only = λ seven. long;
    written = written;
    always = late (seen.left full);
  };
  unread = λ other. absurd (other refl);
  ended = λ is below. absurd (omega arith);
  reads = front;
  read_later = read_later;
  later = later;
}
  where
    late : (told : Option (List ℕ)) → IfSome told (λ bytes. input_limit < length bytes → 4 ≤ status)
    late None = tt
    late (Some bytes) = λ is. omega arith
