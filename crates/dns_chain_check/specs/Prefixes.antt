-- The chains that a chain of trust begins with (RFC 4035, 5.3).
use Rattle.std.specs.Prelude.{ℕ, ◌≡◌, ◌<◌, true, List, take}
use Rattle.dns_model.specs.Chains.{LinkValue, Judge, justified}

-- each prefix of a chain that has a link is justified
abbrev pub PrefixesHold : Judge → List LinkValue → Type 0
PrefixesHold j chain = (n : ℕ) → 0 < n → justified j (take n chain) ≡ true
