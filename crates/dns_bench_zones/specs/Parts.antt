-- For private functions of this crate only: a validator for nested zones and its question.
use Rattle.std.specs.Prelude.{ℕ, ◌≡◌, Result, Ok, Err}
use Rattle.dns_model.specs.Records.{Question}
use Rattle.dns_model.specs.SoundAnswers.{ResponseValue}
use Rattle.dns_handle.specs.declared.error.NetError.{NetError}
use Rattle.dns_evidence.specs.Listing.{ListedValue}
use Rattle.dns_cache.specs.CacheLists.{CountedList}
use Rattle.dns_lookup.specs.Calls.{anchors_of, verifier_of, iterations_of, ranges_of, cache_of}
use Rattle.dns_lookup.specs.Limiting.{default_iterations, default_ranges, default_entries}
use Rattle.dns_lookup.specs.declared.handle.DnssecDnsHandle.{DnssecDnsHandle}
use Rattle.dns_bench_zones.specs.declared.bench.BenchCount.{BenchCount}
use Rattle.dns_bench_zones.specs.declared.bench.Parts.{Parts}
use Rattle.dns_bench_zones.specs.Benches.{IsCountOf}
use Rattle.dns_bench_zones.specs.NestedZones.{anchors, verifier, host_question}

-- what a lookup below so many zones takes
pub record ArePartsOf (n : ℕ) (p : Parts) : Type 0 where
  pub anchors : p.anchors ≡ anchors
  pub verifier : p.verifier ≡ verifier n
  pub query : p.query ≡ host_question n
  pub counted : p.counted ≡ host_question n

-- a validator for so many zones, whose cache is new, and what it is asked
pub record LooksUpBelow {H : Type 0} (n : ℕ) (validator : DnssecDnsHandle H ListedValue CountedList)
    (q : Question) : Type 0 where
  pub anchors : anchors_of validator ≡ anchors
  pub verifier : verifier_of validator ≡ verifier n
  pub iterations : iterations_of validator ≡ default_iterations
  pub ranges : ranges_of validator ≡ default_ranges
  pub cache : cache_of validator ≡ record { list = default_entries; hits = 0 }
  pub query : q ≡ host_question n

-- what is counted of what a lookup answered
abbrev pub IsCounted : Question → Result ResponseValue NetError → Result BenchCount NetError → Type 0
IsCounted q (Ok a) (Ok count) = IsCountOf q a count
IsCounted q (Err error) (Err told) = told ≡ error
IsCounted q _ _ = ⊥
