-- What is counted of one lookup of the host of nested zones (RFC 4035, 5), over any handle.
use Rattle.std.specs.Prelude.{ℕ, ◌+◌, ◌*◌, ◌≡◌, true, min, List, length, Option, Some, Result, Ok, Err, slice_get}
use Rattle.std.specs.Option.{option_map_or}
use Rattle.dns_model.specs.Records.{Question}
use Rattle.dns_model.specs.SoundAnswers.{ChainValue, ResponseValue}
use Rattle.dns_laws.specs.Complete.{shows_secure}
use Rattle.dns_handle.specs.Replies.{error_of}
use Rattle.dns_handle.specs.declared.error.NetError.{NetError}
use Rattle.dns_handle.specs.declared.error.NetError.TheVariants.{NoMemory}
use Rattle.dns_handle.specs.declared.handle.DnsHandle as handle
use Rattle.dns_validation.specs.Requests.{asking_request}
use Rattle.dns_lookup.specs.Calls.{Call, CacheUse}
use Rattle.dns_lookup.specs.Limiting.{default_iterations, default_ranges, IsFresh}
use Rattle.dns_lookup.specs.Sending.{IsLookedUp}
use Rattle.dns_recorded.specs.Recording.{RecordedValue}
use Rattle.dns_recorded.specs.contracts.recorded.RecordedDnsHandle.TheImpl as recorded
use Rattle.dns_bench_zones.specs.NestedZones.{upstream, judge_of_zones, host_question, deep_options, moment}
use Rattle.dns_bench_zones.specs.declared.bench.BenchCount.{BenchCount}

-- the lookup of the host of so many zones, over a handle before it and after it, with its use of a cache
abbrev pub bench_call : {H : Type 0} → ℕ → H → H → CacheUse → Call H
bench_call n old new cache = record {
  judge = judge_of_zones n;
  query = host_question n;
  request = asking_request (host_question n) deep_options;
  options = deep_options;
  iterations = default_iterations;
  ranges = default_ranges;
  now = moment;
  old = old;
  new = new;
  cache = cache;
}

-- a count stops at the greatest number of 32 bits
abbrev pub counted : ℕ → ℕ
counted n = min n 4294967295

-- how many links the first chain has, 0 without one
abbrev pub first_links : List ChainValue → ℕ
first_links chains = option_map_or (λ chain. length chain.links) (slice_get chains 0) 0

-- what is counted of an answer: whether what was queried is there and all of it Secure, the links of the first chain, and the steps
-- of the trail
pub record IsCountOf (q : Question) (a : ResponseValue) (count : BenchCount) : Type 0 where
  pub secure : count.secure ≡ shows_secure q a.message.answers
  pub links : count.links ≡ counted (first_links a.chains)
  pub asks : count.asks ≡ length a.trail

-- how it ends: with what is counted of an answer, or with the error of the lookup, and with the handle as the lookup leaves it, by one
-- send for each step of the trail; or memory runs out. The cache is made for the lookup
pub data EndsBench {H : Type 0} (meanings : handle.Ghosts H) (n : ℕ) (old : H) : Option H
    → Result BenchCount NetError → Type 0 where
  Counted : (new : H) (cache : CacheUse) (a : ResponseValue) (count : BenchCount) → IsFresh cache
      → IsLookedUp meanings (bench_call n old new cache) (Ok a) → IsCountOf (host_question n) a count
      → EndsBench meanings n old (Some new) (Ok count)
  Failed : (new : H) (cache : CacheUse) (error : NetError) → IsFresh cache
      → IsLookedUp meanings (bench_call n old new cache) (Err (error_of error)) → EndsBench meanings n old (Some new) (Err error)
  OutOfMemory : (kept : Option H) → EndsBench meanings n old kept (Err NoMemory)

-- what is counted over the upstream that tells of the zones: the host's address is Secure, and each zone, the root among them, takes
-- three links and two asks
pub record IsOwnCount (n : ℕ) (count : BenchCount) : Type 0 where
  pub left : RecordedValue
  pub counts : EndsBench recorded.ghosts n (upstream n) (Some left) (Ok count)
  pub secure : count.secure ≡ true
  pub links : count.links ≡ 3 * n + 3
  pub asks : count.asks ≡ 2 * n + 2
