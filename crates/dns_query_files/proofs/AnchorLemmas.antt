-- Records in front of others, as the loop over lines gathers them; and how much of a text is left.
use Rattle.std.proofs.Common.{◌≡◌, ℕ, ◌+◌, List, [], ◌++◌, length, Option, None, Some, refl, ap}
use Rattle.std.proofs.Common.{Result, Ok, Err, append_assoc, append-nil}
use Rattle.dns_master_file.specs.Reading.{LineValue}
use Rattle.dns_query_files.specs.AnchorFiles.{with_before}
use Rattle.dns_query_files.specs.declared.anchors_error.AnchorsError.{AnchorsError}

-- the bytes that are left and one, where something is left
abbrev pub size_left : Option (List ℕ) → ℕ
size_left None = 0
size_left (Some text) = length text + 1

pub with_none : (others : Result (List LineValue) AnchorsError) → with_before [] others ≡ others
with_none (Ok more) = refl
with_none (Err error) = refl

-- nothing is left
pub with_end : (seen : List LineValue) → with_before seen (Ok []) ≡ Ok seen
with_end seen = ap Ok (append-nil seen)

-- records that were gathered, and more of them
pub with_more : (seen found : List LineValue) (others : Result (List LineValue) AnchorsError)
    → with_before (seen ++ found) others ≡ with_before seen (with_before found others)
with_more seen found (Ok more) = ap Ok (append_assoc seen found more)
with_more seen found (Err error) = refl
