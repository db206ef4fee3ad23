-- What follows of an rdata that can be read, with names for proofs.
use Rattle.std.specs.Prelude.{ℕ, ◌==◌, Bool, false, List, Option}
use Rattle.std.specs.Option.{option_map_or}
use Rattle.dns_model.specs.Names.{Labels}
use Rattle.dns_model.specs.Views.{RrsigValue, DnskeyValue}
use Rattle.dns_model.specs.Keys.{AnchorValue, holds_anchor}

abbrev pub covers_rtype : ℕ → Option RrsigValue → Bool
covers_rtype rtype sig = option_map_or (λ s. s.covered == rtype) sig false

abbrev pub covered_rtype : Option RrsigValue → ℕ → ℕ
covered_rtype sig rtype = option_map_or (λ s. s.covered) sig rtype

abbrev pub anchored_by : List AnchorValue → Labels → Option DnskeyValue → Bool
anchored_by anchors owner key = option_map_or (λ k. holds_anchor anchors owner k.algorithm k.key) key false
