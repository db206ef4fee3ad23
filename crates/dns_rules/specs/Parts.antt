-- For private functions and proofs only: a part of a walk, with the steps that it adds and the order in which they were sent.
use Rattle.std.specs.Prelude.{ℕ, ◌≡◌, ◌+◌, ◌≤◌, true, ◌==◌, ◌&&◌, List, ◌++◌, length, Some, nat_lt, nat_le, if◌then◌else◌}
use Rattle.std.specs.List.{count_by}
use Rattle.dns_model.specs.declared.trail.AskRef.{AskRef}
use Rattle.dns_model.specs.Chains.{Judge}
use Rattle.dns_model.specs.Trails.{AskedValue}
use Rattle.dns_rules.specs.Asking.{Limits}
use Rattle.dns_rules.specs.CacheEntries.{EntryValue}
use Rattle.dns_rules.specs.Derivation.{steps_hold, order_asks, order_step, end_asks, end_step}

-- how often a number is among those from a up to, and not including, b
abbrev pub once_between : ℕ → ℕ → ℕ → ℕ
once_between a b i = if nat_le a i && nat_lt i b then 1 else 0

-- asks that are made from n sends on take the trail from `before` to `after`, with m sends afterwards
pub record TrailPart (j : Judge) (limits : Limits) (cached : List EntryValue) (before after : List AskedValue) (asks : List AskRef) (n m : ℕ) : Type 0 where
  -- the steps that are added
  pub more : List AskedValue
  pub grown : after ≡ before ++ more
  pub hold : steps_hold j limits cached before more ≡ true
  -- their numbers, in the order of the sends
  pub order : List ℕ
  -- that order is the one in which the asks are met, whatever steps come later
  pub met : (later : List AskedValue) (above k : ℕ) (met : List ℕ) → length met ≡ n → length after ≤ above → length after ≤ k
      → order_asks (order_step above (after ++ later)) k asks met ≡ Some (met ++ order)
  -- the steps end one after another, whatever steps come later
  pub ends : (later : List AskedValue) (above : ℕ) → length after ≤ above
      → end_asks (end_step above (after ++ later)) asks (length before) ≡ Some (length after)
  -- each of the numbers stands in it once, and no other does
  pub once : (i : ℕ) → count_by (λ x. i == x) order ≡ once_between (length before) (length after) i
  pub counted : m ≡ n + length order
  pub alike : length order ≡ length more
