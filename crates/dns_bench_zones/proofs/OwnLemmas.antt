-- What a lookup answers over the upstream that tells of the zones, and what is counted of that.
use Rattle.std.proofs.Common.{◌≡◌, ◌⊎◌, inl, inr, ℕ, ◌+◌, ◌*◌, ◌≤◌, true, List, [], ◌∷◌, length, Option, Some, Result, Ok, Err, IfOk, IfErr, refl, ap, ◌∙◌, subst, arith}
use Rattle.dns_model.specs.declared.denial.Denial.TheVariants as denial
use Rattle.dns_model.specs.SoundAnswers.{ResponseValue}
use Rattle.dns_laws.specs.Complete.{shows_secure}
use Rattle.dns_cache.specs.CacheLists.{CacheList}
use Rattle.dns_rules.specs.CacheEntries.{EntryValue}
use Rattle.dns_rules.specs.ChainedSets.{finished}
use Rattle.dns_handle.specs.Errors as seen
use Rattle.dns_handle.specs.Errors.{Reply, ErrorValue}
use Rattle.dns_handle.specs.ErrorKinds.{is_no_memory}
use Rattle.dns_handle.specs.Replies.{error_of}
use Rattle.dns_handle.specs.declared.error.NetError.{NetError}
use Rattle.dns_handle.specs.declared.error.NetError.TheVariants.{NoMemory}
use Rattle.dns_handle.proofs.ErrorLemmas.{told_no_memory}
use Rattle.dns_recorded.specs.Recording.{RecordedValue, replies_of}
use Rattle.dns_recorded.specs.contracts.recorded.RecordedDnsHandle.TheImpl as recorded
use Rattle.dns_lookup.specs.Caching.{ServeFrom}
use Rattle.dns_lookup.specs.Calls.{CacheUse}
use Rattle.dns_lookup.specs.Limiting.{default_entries, IsFresh}
use Rattle.dns_lookup.specs.Sending.{IsLookedUp}
use Rattle.dns_record.specs.declared.no_memory.NoMemory.{NoMemory as NoMemoryValue}
use Rattle.dns_bench_zones.specs.declared.bench.BenchCount.{BenchCount}
use Rattle.dns_bench_zones.specs.NestedZones.{host_question, upstream, moment, judge_of_zones}
use Rattle.dns_bench_zones.specs.Benches.{bench_call, first_links, counted, IsCountOf, EndsBench, Counted, Failed, OutOfMemory, IsOwnCount}
use Rattle.dns_bench_zones.proofs.ClimbLemmas.{bench_terms, tells, host_message, HostGot, host_got, host_secure}
use Rattle.dns_bench_zones.proofs.RunLemmas.{IsLast, all_told, run_ends}

-- the host's address is Secure, by three links and two asks for each zone, the root among them
pub record IsOwnAnswer (n : ℕ) (a : ResponseValue) : Type 0 where
  pub secure : shows_secure (host_question n) a.message.answers ≡ true
  pub links : first_links a.chains ≡ 3 * n + 3
  pub asks : length a.trail ≡ 2 * n + 2

-- ---- the answer to which the way comes

by_way : (n : ℕ) → n ≤ 100 → (h : HostGot n)
    → IsOwnAnswer n (finished moment (h.c ∷ []) (host_message n) denial.None h.ends.trail)
by_way n low h = record {
  secure = rw h.judged (host_secure (judge_of_zones n) n moment low);
  links = rw h.judged h.links;
  asks = h.ends.long;
}

same_reply : (a b : Reply) (o p : Option Reply) → o ≡ Some a → p ≡ Some b → o ≡ p → a ≡ b
same_reply a b o p one two same = cc (one, two, same)

-- ---- what a lookup answers

-- an answer that is so
pub record IsOwnReply (n : ℕ) (reply : Reply) : Type 0 where
  pub answer : ResponseValue
  pub is : reply ≡ Ok answer
  pub own : IsOwnAnswer n answer

-- nothing was kept before the lookup
none_kept : (before : Option CacheList) (cached : List EntryValue) → before ≡ Some default_entries
    → ServeFrom before moment cached
    → cached ≡ []
none_kept before cached fresh served = subst (λ b. ServeFrom b moment cached) fresh served

-- a run over the zones' replies comes to one answer, unless memory runs out
own_reply : (n : ℕ) → n ≤ 100 → (new : RecordedValue) (cache : CacheUse) (reply : Reply) → IsFresh cache
    → IsLookedUp recorded.ghosts (bench_call n (upstream n) new cache) reply
    → (reply ≡ Err seen.NoMemory) ⊎ IsOwnReply n reply
own_reply n low new cache reply fresh is =
    let front = is.front in
    let h = host_got n low in
    elim front.came [
      | inl none ↦ inl none
      | inr ended ↦
          let told =
          all_told moment (upstream n) front.middle front.sends (replies_of (upstream n)) refl refl front.made in
          let last : IsLast h.ends.last =
          record { rests = h.ends.rests; seeks_none = h.ends.seeks_none; none_open = h.ends.none_open } in
          let same =
          run_ends (bench_terms n) (tells n) front.cached front.sends front.state h.ends.last reply front.run
          (none_kept cache.before front.cached fresh front.served) ended told h.ends.way last in
          inr (record {
            answer = finished moment (h.c ∷ []) (host_message n) denial.None h.ends.trail;
            is = same_reply reply _ front.state.ended h.ends.last.ended ended h.ends.ended same;
            own = by_way n low h;
          })
    ]

same_answer : (a b : ResponseValue) → (let r : Reply = Ok a in r) ≡ Ok b → b ≡ a
same_answer a b h = cc

own_answer : (n : ℕ) → n ≤ 100 → (new : RecordedValue) (cache : CacheUse) (a : ResponseValue) → IsFresh cache
    → IsLookedUp recorded.ghosts (bench_call n (upstream n) new cache) (Ok a) → IsOwnAnswer n a
own_answer n low new cache a fresh is = elim (own_reply n low new cache (Ok a) fresh is) [
  | inl none ↦ cc none
  | inr own ↦ subst (IsOwnAnswer n) (same_answer a own.answer own.is) own.own
]

-- ---- what is counted

pub record AreOwnCounts (n : ℕ) (count : BenchCount) : Type 0 where
  pub secure : count.secure ≡ true
  pub links : count.links ≡ 3 * n + 3
  pub asks : count.asks ≡ 2 * n + 2

counted_few : (n : ℕ) → n ≤ 100 → counted (3 * n + 3) ≡ 3 * n + 3
counted_few n low = omega (arith, low)

pub own_counts : (n : ℕ) → n ≤ 100 → (new : RecordedValue) (cache : CacheUse) (a : ResponseValue) (count : BenchCount)
    → IsFresh cache → IsLookedUp recorded.ghosts (bench_call n (upstream n) new cache) (Ok a)
    → IsCountOf (host_question n) a count
    → AreOwnCounts n count
own_counts n low new cache a count fresh is counts =
    let own = own_answer n low new cache a fresh is in
    record {
      secure = counts.secure ∙ own.secure;
      links = counts.links ∙ ap counted own.links ∙ counted_few n low;
      asks = counts.asks ∙ own.asks;
    }

-- ---- want of memory

memory_seen : (error : NetError) → error_of error ≡ seen.NoMemory → error ≡ NoMemory
memory_seen error is = told_no_memory error (ap is_no_memory is)

error_same : (a b : ErrorValue) → (let x : Reply = Err a in x) ≡ Err b → a ≡ b
error_same a b h = cc

-- a lookup over these replies has no error but that
fails_never : (n : ℕ) → n ≤ 100 → (new : RecordedValue) (cache : CacheUse) (error : NetError) → IsFresh cache
    → IsLookedUp recorded.ghosts (bench_call n (upstream n) new cache) (Err (error_of error)) → error ≡ NoMemory
fails_never n low new cache error fresh is = elim (own_reply n low new cache (Err (error_of error)) fresh is) [
  | inl none ↦ memory_seen error (error_same (error_of error) seen.NoMemory none)
  | inr own ↦ let never = own.is in cc never
]

pub memory_alone : (n : ℕ) → n ≤ 100 → (kept : Option RecordedValue) (result : Result BenchCount NetError)
    → EndsBench recorded.ghosts n (upstream n) kept result → IfErr result (λ e. e ≡ NoMemory)
memory_alone n low _ _ (Counted left cache a count fresh is counts) = tt
memory_alone n low _ _ (Failed left cache error fresh is) = fails_never n low left cache error fresh is
memory_alone n low _ _ (OutOfMemory kept) = refl

-- ---- the count

own_by : (n : ℕ) → n ≤ 100 → (kept : Option RecordedValue) (result : Result BenchCount NetError) (count : BenchCount)
    → EndsBench recorded.ghosts n (upstream n) kept result → result ≡ Ok count → IsOwnCount n count
own_by n low _ _ count (Counted left cache a other fresh is counts) same =
    let one : other ≡ count = cc in
    let own = own_counts n low left cache a other fresh is counts in
    subst (IsOwnCount n) one (record {
      left = left;
      counts = Counted left cache a other fresh is counts;
      secure = own.secure;
      links = own.links;
      asks = own.asks;
    })
own_by n low _ _ count (Failed left cache e fresh is) same = cc
own_by n low _ _ count (OutOfMemory kept) same = cc

pub own_count : (n : ℕ) → n ≤ 100 → (kept : Option RecordedValue) (ended : Result BenchCount NetError)
    (result : Result BenchCount NoMemoryValue)
    → EndsBench recorded.ghosts n (upstream n) kept ended → IfOk result (λ count. ended ≡ Ok count)
    → IfOk result (λ count. IsOwnCount n count)
own_count n low kept ended (Ok count) ends is = own_by n low kept ended count ends is
own_count n low kept ended (Err e) ends is = tt
