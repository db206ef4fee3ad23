-- The calls of an object in memory, of which some are set to fail.
use Rattle.std.specs.Prelude.{ℕ, Bool, ◌==◌, List, if◌then◌else◌}
use Rattle.std.specs.List.{list_any}
use Rattle.dns_model.specs.Counts.{one_more}

-- the numbers, from 0, of the calls that fail; how many calls were made; and how many of those failed
pub record CallLog : Type 0 where
  pub fails : List ℕ
  pub made : ℕ
  pub faults : ℕ

-- no call was made
abbrev pub no_calls : List ℕ → CallLog
no_calls fails = record { fails = fails; made = 0; faults = 0 }

-- the next call is one of those that fail
abbrev pub next_fails : CallLog → Bool
next_fails log = list_any (λ n. n == log.made) log.fails

-- with the next call
abbrev pub with_call : CallLog → CallLog
with_call log = record log {
  made = one_more log.made;
  faults = if next_fails log then one_more log.faults else log.faults;
}

-- a source in memory: the bytes left, and its calls
pub record TextLeft : Type 0 where
  pub left : List ℕ
  pub calls : CallLog

-- a sink in memory: the bytes taken, and its calls
pub record TextTaken : Type 0 where
  pub taken : List ℕ
  pub calls : CallLog
