-- Which calls of an object in memory fail.
use Rattle.std.specs.Prelude.{ℕ, Bool, ◌==◌, List}
use Rattle.std.specs.List.{list_any}
use Rattle.dns_model.specs.Counts.{one_more}

-- the numbers, from 0, of the calls that fail; and how many calls were made
pub record PlanValue : Type 0 where
  pub fails : List ℕ
  pub made : ℕ

abbrev pub planned : List ℕ → PlanValue
planned fails = record { fails = fails; made = 0 }

-- the next call is one of those that fail
abbrev pub next_fails : PlanValue → Bool
next_fails plan = list_any (λ n. n == plan.made) plan.fails

-- with the next call
abbrev pub with_call : PlanValue → PlanValue
with_call plan = record plan { made = one_more plan.made }
