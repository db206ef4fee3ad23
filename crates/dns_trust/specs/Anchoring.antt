-- Trust anchors as a set, and the number by which one is found.
use Rattle.std.specs.Prelude.{ℕ, List, [], ◌∷◌, ◌++◌, map, if◌then◌else◌}
use Rattle.std.specs.Char.{to_ascii_lowercase}
use Rattle.dns_model.specs.Names.{Labels, wire}
use Rattle.dns_model.specs.Keys.{AnchorValue, holds_anchor}
use Rattle.dns_evidence.specs.Finding.{mixed}

-- one anchor more, unless it is there
abbrev pub with_anchor : List AnchorValue → AnchorValue → List AnchorValue
with_anchor anchors anchor =
    if holds_anchor anchors anchor.owner anchor.algorithm anchor.key then anchors else anchors ++ anchor ∷ []

-- ---- for private functions of this crate only

-- the number by which an anchor is found
abbrev pub anchor_number : Labels → ℕ → List ℕ → ℕ
anchor_number owner algorithm key = mixed (mixed algorithm key) (map to_ascii_lowercase (wire owner))

abbrev pub number_of_anchor : AnchorValue → ℕ
number_of_anchor anchor = anchor_number anchor.owner anchor.algorithm anchor.key
