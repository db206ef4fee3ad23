-- How often a request is sent while no answer comes (RFC 1035, 7.1).
use Rattle.std.specs.Prelude.{ℕ, ◌+◌, ◌-◌, ◌/◌, min, max}

-- a request is sent again after each interval, in milliseconds, until so many tasks wait for its answer
pub record RetriesValue : Type 0 where
  pub interval : ℕ
  pub tasks : ℕ

-- an interval is at least a millisecond, and one task at least waits
abbrev pub retries_of : ℕ → ℕ → RetriesValue
retries_of interval tasks = record { interval = max interval 1; tasks = max tasks 1 }

-- how often it was to be sent when so many milliseconds have passed since the first time
abbrev pub tries_by : RetriesValue → ℕ → ℕ
tries_by retries elapsed = 1 + min (retries.tasks - 1) (elapsed / retries.interval)
