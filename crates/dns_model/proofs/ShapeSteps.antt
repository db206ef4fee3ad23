-- The steps by which an rdata is read, each with a name for proofs.
use Rattle.std.specs.Prelude.{ℕ, List, ◌∷◌, length, map, Option, Some, option_map}
use Rattle.std.specs.List.{concat}
use Rattle.std.specs.Option.{option_map_or}
use Rattle.dns_model.specs.OptionSteps.{◌>>=◌}
use Rattle.dns_model.specs.Names.{Labels}
use Rattle.dns_model.specs.Shapes.{Part, Plain, Named, canonical_part}

abbrev pub named_front : Option (Labels × List ℕ) → Option (Part × List ℕ)
named_front name = option_map (λ n. (Named n.0, n.1)) name

abbrev pub counted_front : Option (List ℕ × List ℕ) → Option (Part × List ℕ)
counted_front text = option_map (λ t. (Plain (length t.0 ∷ t.0), t.1)) text

abbrev pub with_part : Part → Option (List Part) → Option (List Part)
with_part part parts = parts >>= λ ps. Some (part ∷ ps)

abbrev pub after_part : Option (Part × List ℕ) → (List ℕ → Option (List Part)) → Option (List Part)
after_part part more = part >>= λ p. with_part p.0 (more p.1)

abbrev pub canonical_parts : List ℕ → Option (List Part) → List ℕ
canonical_parts rdata parts = option_map_or (λ ps. concat (map canonical_part ps)) parts rdata
