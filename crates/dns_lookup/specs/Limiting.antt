-- How many iterations of the hash of NSEC3 records a validator counts (RFC 9276, 3.2), and how much it keeps of what it finds, and for
-- how long (RFC 4035, 4.5 and 4.7).
use Rattle.std.specs.Prelude.{ℕ, ◌≡◌, ◌-◌, ◌^◌, [], Option, Some, unwrap_or}
use Rattle.dns_cache.specs.CacheLists.{CacheList}
use Rattle.dns_cache.specs.Expiry.{TtlRangeValue, TtlRangesValue}
use Rattle.dns_evidence.specs.declared.limits.IterationLimits.{IterationLimits}
use Rattle.dns_lookup.specs.Calls.{CacheUse}
use Rattle.dns_lookup.specs.declared.handle.DnssecDnsHandle.{DnssecDnsHandle}

-- 100 up to Insecure, 500 up to Bogus
abbrev pub default_iterations : IterationLimits
default_iterations = record { soft = 100; hard = 500 }

-- errors for 1 to 60 seconds, all else for as long as its ttl says
abbrev pub default_ranges : TtlRangesValue
default_ranges = record {
  positive = record { least = 0; most = 2 ^ 64 - 1 };
  negative = record { least = 1; most = 60 };
}

-- from the first to the last of some numbers of seconds
abbrev pub range_by : ℕ → ℕ → TtlRangeValue
range_by least most = record { least = least; most = most }

-- no entries yet, and 65,536 at the most
abbrev pub default_entries : CacheList
default_entries = record { entries = []; capacity = 65536 }

-- the cache was made for the lookup
abbrev pub IsFresh : CacheUse → Type 0
IsFresh kept = kept.before ≡ Some default_entries

-- a validator with the limits that are given, and else as it was
abbrev pub limited : {H V C : Type 0} → DnssecDnsHandle H V C → Option ℕ → Option ℕ → DnssecDnsHandle H V C
limited validator soft hard =
    record validator {
      iterations = record { soft = unwrap_or soft validator.iterations.soft; hard = unwrap_or hard validator.iterations.hard };
    }
