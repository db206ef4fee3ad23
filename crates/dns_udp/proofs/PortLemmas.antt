-- Ports that are drawn until one isn't avoided.
use Rattle.std.proofs.Common.{◌≡◌, ℕ, ◌+◌, ◌<◌, ◌≤◌, ◌⊎◌, inl, inr, max, Bool, true, false, List, [], ◌∷◌, ◌++◌, length, refl, arith}
use Rattle.std.specs.List.{list_all}
use Rattle.dns_multiplexer.specs.Draws.{Drawn}
use Rattle.dns_udp.specs.Ports.{IsNextPort, most_attempts}

module _ {R : Type 0} (draw : R → ℕ → R → Type 0) (is_avoided : ℕ → Bool) where
  -- the attempts are used up
  pub no_port : (from : R) (before : ℕ) → 10 ≤ before → IsNextPort draw is_avoided from from before before 0
  no_port from before used = record {
    passed = [];
    avoided = refl;
    counted = omega arith;
    few = omega arith;
    found = inr (refl, refl, used);
  }

  -- a port that isn't avoided
  pub first_port : (from to : R) (before port : ℕ) → before < 10 → draw from port to → is_avoided port ≡ false
      → IsNextPort draw is_avoided from to before before port
  first_port from to before port left drawn free = record {
    passed = [];
    avoided = refl;
    counted = omega arith;
    few = omega arith;
    found = inl ((to, drawn, refl), free, left);
  }

  found_behind : (from mid to : R) (first after port : ℕ) (passed : List ℕ) → draw from first mid
      → (Drawn draw mid (passed ++ port ∷ []) to × (is_avoided port ≡ false) × (after < most_attempts))
      ⊎ (Drawn draw mid passed to × (port ≡ 0) × (most_attempts ≤ after))
      → (Drawn draw from ((first ∷ passed) ++ port ∷ []) to × (is_avoided port ≡ false) × (after < most_attempts))
      ⊎ (Drawn draw from (first ∷ passed) to × (port ≡ 0) × (most_attempts ≤ after))
  found_behind from mid to first after port passed drawn (inl found) = inl ((mid, drawn, found.0), found.1, found.2)
  found_behind from mid to first after port passed drawn (inr found) = inr ((mid, drawn, found.0), found.1, found.2)

  -- an avoided port is passed
  pub next_after : (from mid to : R) (before first after port : ℕ) → before < 10 → draw from first mid → is_avoided first ≡ true
      → IsNextPort draw is_avoided mid to (before + 1) after port → IsNextPort draw is_avoided from to before after port
  next_after from mid to before first after port left drawn avoided next =
      let rest : list_all is_avoided next.passed ≡ true = next.avoided in
      let counted : after ≡ before + 1 + length next.passed = next.counted in
      let few : after ≤ max (before + 1) 10 = next.few in
      record {
        passed = first ∷ next.passed;
        avoided = rw (avoided, rest) refl;
        counted = omega arith;
        few = omega arith;
        found = found_behind from mid to first after port next.passed drawn next.found;
      }
