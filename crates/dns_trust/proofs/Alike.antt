-- Equal anchors have equal numbers.
use Rattle.std.proofs.Common.{◌≡◌, ℕ, true, ◌&&◌, List, [], ◌∷◌, ◌++◌, map, length, refl, sym, ap, ◌∙◌}
use Rattle.std.specs.Prelude.{◌==◌}
use Rattle.std.specs.Char.{to_ascii_lowercase}
use Rattle.std.proofs.lemmas.Bool.{and_parts, eqb-true}
use Rattle.std.proofs.lemmas.List.{map-append, length-map}
use Rattle.std.proofs.lemmas.Slice.Eq.{bytes_eq-Decides}
use Rattle.dns_model.specs.Names.{Labels, folded, name_eq, wire}
use Rattle.dns_model.specs.Keys.{AnchorValue, bytes_eq, is_anchor}
use Rattle.dns_model.proofs.NameLemmas.{name_eq-Decides}
use Rattle.dns_evidence.specs.Finding.{mixed}
use Rattle.dns_trust.specs.Anchoring.{anchor_number, number_of_anchor}

-- the wire form in lower case, from the folded labels
lower_wire : Labels → List ℕ
lower_wire [] = 0 ∷ []
lower_wire (label ∷ name) = to_ascii_lowercase (length label) ∷ (label ++ lower_wire name)

wire_lowered : (name : Labels) → map to_ascii_lowercase (wire name) ≡ lower_wire (folded name)
unfolding lower_wire
wire_lowered [] = refl
wire_lowered (label ∷ name) =
    rw (map-append to_ascii_lowercase label (wire name), wire_lowered name, length-map label to_ascii_lowercase) refl

-- names that are equal have one wire form in lower case
pub wire_alike : (a b : Labels) → name_eq a b ≡ true → map to_ascii_lowercase (wire a) ≡ map to_ascii_lowercase (wire b)
wire_alike a b h = wire_lowered a ∙ ap lower_wire ((name_eq-Decides a b).0 h) ∙ sym (wire_lowered b)

-- the number of an anchor that is equal
pub anchor_alike : (owner : Labels) (algorithm : ℕ) (key : List ℕ) (anchor : AnchorValue) → is_anchor owner algorithm key anchor ≡ true
    → number_of_anchor anchor ≡ anchor_number owner algorithm key
anchor_alike owner algorithm key anchor h =
    let one = and_parts (name_eq owner anchor.owner) ((algorithm == anchor.algorithm) && bytes_eq key anchor.key) h in
    let two = and_parts (algorithm == anchor.algorithm) (bytes_eq key anchor.key) one.1 in
    sym (ap (mixed (mixed algorithm key)) (wire_alike owner anchor.owner one.0)
    ∙ ap (λ k. mixed (mixed algorithm k) (map to_ascii_lowercase (wire anchor.owner))) ((bytes_eq-Decides key anchor.key).0 two.1)
    ∙ ap (λ a. mixed (mixed a anchor.key) (map to_ascii_lowercase (wire anchor.owner))) (eqb-true algorithm anchor.algorithm two.0))
