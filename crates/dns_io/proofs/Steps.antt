-- One more piece that a source gave or a sink took.
use Rattle.std.proofs.Common.{◌≡◌, ℕ, ◌+◌, ◌-◌, ◌≤◌, List, ◌++◌, length, take, drop, Option, arith}
use Rattle.std.proofs.lemmas.List.{length-append, length-drop, take_all}
use Rattle.std.specs.Io.KnownBytes.{Appends, Consumes}
use Rattle.std.proofs.KnownBytes.{Appends-trans, Consumes-trans}
use Rattle.std.proofs.Math.Seq.{take-add}
use Rattle.dns_io.specs.Reading.{ReadsFront}
use Rattle.dns_io.specs.Pieces.{ReadsOnto}

-- what was read so far, and what a piece put behind it
pub reads_more : (first before now : Option (List ℕ)) (old new : List ℕ)
    → Consumes first before old → ReadsOnto before now old new → Consumes first now new
reads_more first before now old new so_far step =
    rw step.appended (Consumes-trans first before now old step.bytes so_far step.read)

-- what was read so far, and what a piece took from the source
pub fronts_more : (most room : ℕ) (first before now : Option (List ℕ)) (old : List ℕ)
    → length old + room ≤ most → Consumes first before old → ReadsFront room before now → ReadsFront most first now
fronts_more most room first before now old within so_far step = record {
  bytes = old ++ step.bytes;
  bound = omega (arith, length-append old step.bytes, step.bound);
  read = Consumes-trans first before now old step.bytes so_far step.read;
}

-- the slice from a place on is all that is behind it
rest_whole : (bytes : List ℕ) (at : ℕ) → take (length bytes - at) (drop at bytes) ≡ drop at bytes
rest_whole bytes at = take_all _ _ (omega (arith, length-drop at bytes))

-- a sink that took the bytes before a place takes more from there on
pub writes_more : (before now later : Option (List ℕ)) (bytes : List ℕ) (at count : ℕ)
    → Appends before now (take at bytes) → Appends now later (take count (take (length bytes - at) (drop at bytes)))
    → Appends before later (take (at + count) bytes)
writes_more before now later bytes at count first next =
    rw take-add
    (Appends-trans before now later (take at bytes) (take count (drop at bytes)) first (rw rest_whole at next))
