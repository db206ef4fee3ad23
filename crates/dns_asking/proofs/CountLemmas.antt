-- Counts of a dialer that are greater than before.
use Rattle.std.proofs.Common.{ℕ, ◌≡◌, ◌≤◌, ap, arith}
use Rattle.dns_model.specs.Counts.{Rose, RoseBy}
use Rattle.dns_link.specs.Counts.{CountsValue, sum_counted, with_fault}
use Rattle.dns_udp.specs.Met.{RisesBy}

pub rose_by_none : (a : ℕ) → RoseBy 0 a a
rose_by_none a = omega arith

pub rose_by_then : (n a b c : ℕ) → RoseBy n a b → RoseBy 0 b c → RoseBy n a c
rose_by_then n a b c h k = omega (arith, h, k)

pub rose_then : (a b c : ℕ) → Rose a b → RoseBy 0 b c → Rose a c
rose_then a b c h k = omega (arith, h, k)

-- as much as was met
pub rises_rose : (k a n b : ℕ) → k ≤ n → RisesBy a n b → RoseBy k a b
rises_rose k a n b less h = omega (arith, less, h)

pub rises_one : (a n b : ℕ) → 1 ≤ n → RisesBy a n b → Rose a b
rises_one a n b less h = omega (arith, less, h)

-- what an object counted that is given back
pub sum_rose : (n a b : ℕ) → RoseBy n 0 b → RoseBy n a (sum_counted a b)
sum_rose n a b h = omega (arith, h)

pub sum_rose_one : (a b : ℕ) → Rose 0 b → Rose a (sum_counted a b)
sum_rose_one a b h = omega (arith, h)

pub sum_later : (a b c : ℕ) → RoseBy 0 b c → RoseBy 0 (sum_counted a b) (sum_counted a c)
sum_later a b c h = omega (arith, h)

pub fault_rose : (a b : CountsValue) → b ≡ with_fault a → Rose a.faults b.faults
fault_rose a b is = let same = ap (λ (c : CountsValue). c.faults) is in omega (arith, same)
