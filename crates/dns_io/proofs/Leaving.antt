-- Facts of what a source told, and what is left where nothing was read or written.
use Rattle.std.proofs.Common.{◌≡◌, ◌+◌, ◌<◌, ℕ, List, [], Option, None, Some, IfSome, length, replicate, subst, arith}
use Rattle.std.proofs.lemmas.List.{length-replicate}
use Rattle.std.proofs.KnownBytes.{Appends-nil, Consumes-nil}
use Rattle.dns_io.specs.Reading.{input_limit, ReadsFront, OfInput}
use Rattle.dns_io.specs.Writing.{TakesPrefix}

-- the bytes that were read are those that the source told
pub of_read : (Fact : List ℕ → Type 0) (told : Option (List ℕ)) (bytes : List ℕ)
    → IfSome told (λ left. bytes ≡ left) → Fact bytes → OfInput told Fact
of_read Fact None bytes same fact = record { bytes = bytes; fact = fact }
of_read Fact (Some left) bytes same fact = subst Fact same fact

-- what holds of all bytes
pub of_any : (Fact : List ℕ → Type 0) (told : Option (List ℕ)) → ((bytes : List ℕ) → Fact bytes) → OfInput told Fact
of_any Fact None all = record { bytes = []; fact = all [] }
of_any Fact (Some left) all = all left

-- bytes that are more than so many
record Longer (most : ℕ) : Type 0 where
  pub bytes : List ℕ
  pub long : most < length bytes

longer : (most : ℕ) → Longer most
longer most =
    let zeros : List ℕ = replicate (most + 1) 0 in
    let e : length zeros ≡ most + 1 = length-replicate (most + 1) 0 in
    record { bytes = zeros; long = omega (arith, e) }

-- what holds of all bytes past the limit
pub of_long : (Fact : List ℕ → Type 0) (told : Option (List ℕ)) → IfSome told (λ left. input_limit < length left)
    → ((bytes : List ℕ) → input_limit < length bytes → Fact bytes) → OfInput told Fact
of_long Fact None long all =
    let some = longer input_limit in
    record { bytes = some.bytes; fact = all some.bytes some.long }
of_long Fact (Some left) long all = all left long

-- nothing was read
pub nothing_read : (most : ℕ) (before : Option (List ℕ)) → ReadsFront most before before
nothing_read most before = record { bytes = []; bound = omega arith; read = Consumes-nil before }

-- nothing was written
pub nothing_taken : (before : Option (List ℕ)) (text : List ℕ) → TakesPrefix before before text
nothing_taken before text = record { count = 0; bound = omega arith; taken = Appends-nil before }
