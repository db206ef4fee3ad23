-- Local ports that are drawn, so that a forged reply has to guess one (RFC 5452, 4.5 and 9.2).
use Rattle.std.specs.Prelude.{ℕ, ◌≡◌, ◌<◌, ◌≤◌, ◌+◌, ◌⊎◌, Bool, true, false, max, List, [], ◌∷◌, ◌++◌, length}
use Rattle.std.specs.List.{list_all}
use Rattle.std.specs.Ordering.{nat_cmp}
use Rattle.std.specs.BTreeSet.{BTreeSet, contains}
use Rattle.dns_multiplexer.specs.Draws.{Drawn}

-- no more is drawn once so many ports were avoided, or binds refused
abbrev pub most_attempts : ℕ
most_attempts = 10

abbrev pub is_avoided : BTreeSet ℕ → ℕ → Bool
is_avoided avoid port = contains nat_cmp avoid port

-- ports were drawn one after another, and each of the first ones is avoided and counted as an attempt. The last one isn't avoided
-- and is the port; or there is none, since the attempts are used up, and the port is 0
pub record IsNextPort {R : Type 0} (draw : R → ℕ → R → Type 0) (is_avoided : ℕ → Bool) (from to : R)
    (before after port : ℕ) : Type 0 where
  pub passed : List ℕ
  pub avoided : list_all is_avoided passed ≡ true
  pub counted : after ≡ before + length passed
  pub few : after ≤ max before most_attempts
  pub found : (Drawn draw from (passed ++ port ∷ []) to × (is_avoided port ≡ false) × (after < most_attempts))
      ⊎ (Drawn draw from passed to × (port ≡ 0) × (most_attempts ≤ after))
