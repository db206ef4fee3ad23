-- Bytes in front of others, as loops gather them.
use Rattle.std.proofs.Common.{◌≡◌, List, ℕ, [], ◌++◌, Result, Ok, Err, refl, ap}
use Rattle.std.proofs.lemmas.List.{append_assoc, append-nil}
use Rattle.dns_master_file.specs.Front.{with_bytes}
use Rattle.dns_master_file.specs.declared.stop.Stop.{Stop}

pub with_none : (rest : Result (List ℕ) Stop) → with_bytes [] rest ≡ rest
with_none (Ok bytes) = refl
with_none (Err stop) = refl

-- nothing is left
pub with_end : (seen : List ℕ) → with_bytes seen (Ok []) ≡ Ok seen
with_end seen = ap Ok (append-nil seen)

-- bytes that were gathered, and more of them
pub with_more : (seen bytes : List ℕ) (rest : Result (List ℕ) Stop)
    → with_bytes (seen ++ bytes) rest ≡ with_bytes seen (with_bytes bytes rest)
with_more seen bytes (Ok more) = ap Ok (append_assoc seen bytes more)
with_more seen bytes (Err stop) = refl
