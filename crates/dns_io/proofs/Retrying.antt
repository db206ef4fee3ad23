-- What calls that were interrupted leave of known bytes, before one that isn't.
use Rattle.std.proofs.Common.{◌≡◌, ◌∙◌, sym, ap, List, ℕ, ◌++◌, Option, None, Some}
use Rattle.std.specs.Io.KnownBytes.{Appends, Consumes, Keeps}

-- nothing was read, and then some bytes
pub kept_consumes : (a b c : Option (List ℕ)) (bytes : List ℕ) → Keeps a b → Consumes b c bytes → Consumes a c bytes
kept_consumes None b c bytes kept read = tt
kept_consumes (Some x) None c bytes kept read = absurd kept
kept_consumes (Some x) (Some y) None bytes kept read = absurd read
kept_consumes (Some x) (Some y) (Some z) bytes kept read = sym kept ∙ read

-- nothing was written, and then some bytes
pub kept_appends : (a b c : Option (List ℕ)) (bytes : List ℕ) → Keeps a b → Appends b c bytes → Appends a c bytes
kept_appends None b c bytes kept wrote = tt
kept_appends (Some x) None c bytes kept wrote = absurd kept
kept_appends (Some x) (Some y) None bytes kept wrote = absurd wrote
kept_appends (Some x) (Some y) (Some z) bytes kept wrote = wrote ∙ ap (λ l. l ++ bytes) kept
