-- How a lookup below nested zones ends, out of the clauses of a lookup.
use Rattle.std.proofs.Common.{ℕ, ◌≡◌, inl, inr, ◌∙◌, List, Some, Result, Ok, Err, sym, ap, subst}
use Rattle.dns_model.specs.Keys.{AnchorValue}
use Rattle.dns_model.specs.Chains.{judge}
use Rattle.dns_model.specs.Records.{Question}
use Rattle.dns_model.specs.SoundAnswers.{ResponseValue}
use Rattle.dns_evidence.specs.Listing.{ListedValue, answers_of}
use Rattle.dns_evidence.specs.contracts.listed.ListedVerifier.TheImpl as tests
use Rattle.dns_evidence.specs.declared.limits.IterationLimits.{IterationLimits}
use Rattle.dns_handle.specs.Replies.{reply_of}
use Rattle.dns_handle.specs.declared.error.NetError.{NetError}
use Rattle.dns_handle.specs.declared.request.DnsRequestOptions.{DnsRequestOptions}
use Rattle.dns_handle.specs.declared.handle.DnsHandle as handle
use Rattle.dns_cache.specs.CacheLists.{CountedList}
use Rattle.dns_cache.specs.Expiry.{TtlRangesValue}
use Rattle.dns_cache.specs.declared.validation_cache.ValidationCache as cache
use Rattle.dns_lookup.specs.Calls.{Call, CacheUse, inner_of, anchors_of, iterations_of, ranges_of, cache_of, use_of, call_of}
use Rattle.dns_lookup.specs.Limiting.{default_iterations, default_ranges, IsFresh}
use Rattle.dns_lookup.specs.LookupAnswers.{UnlessNoMemory}
use Rattle.dns_lookup.specs.Sending.{IsLookedUp}
use Rattle.dns_lookup.specs.declared.handle.DnssecDnsHandle.{DnssecDnsHandle}
use Rattle.dns_lookup.proofs.PromisedLemmas.{Promised, call_with, looked_up}
use Rattle.dns_bench_zones.specs.declared.bench.BenchCount.{BenchCount}
use Rattle.dns_bench_zones.specs.NestedZones.{anchors, verifier, host_question, deep_options, moment}
use Rattle.dns_bench_zones.specs.Benches.{bench_call, EndsBench, Counted, Failed, OutOfMemory}
use Rattle.dns_bench_zones.specs.Parts.{LooksUpBelow, IsCounted}

-- ---- the call

-- a lookup at the moment, by these parts
abbrev by_list : {H : Type 0} → ListedValue → List AnchorValue → Question → DnsRequestOptions → IterationLimits → TtlRangesValue → H
    → H → CacheUse → Call H
by_list listed trusted q options iterations ranges old new kept =
    call_with (judge (answers_of listed) trusted moment) q options iterations ranges moment old new kept

pub same_call : {H : Type 0} (caches : cache.Ghosts CountedList) (n : ℕ)
    (old new : DnssecDnsHandle H ListedValue CountedList) (q : Question) (options : DnsRequestOptions)
    → LooksUpBelow n old q → options ≡ deep_options
    → call_of tests.ghosts caches old new q options moment
    ≡ bench_call n (inner_of old) (inner_of new) (use_of caches (cache_of old) (cache_of new))
same_call {H} caches n old new q options is deep =
    let from = inner_of old in
    let to = inner_of new in
    let kept = use_of caches (cache_of old) (cache_of new) in
    let limits = iterations_of old in
    let ranges = ranges_of old in
    ap (λ l. by_list l (anchors_of old) q options limits ranges from to kept) is.verifier
    ∙ ap (λ a. by_list (verifier n) a q options limits ranges from to kept) is.anchors
    ∙ ap (λ x. by_list (verifier n) anchors x options limits ranges from to kept) is.query
    ∙ ap (λ o. by_list (verifier n) anchors (host_question n) o limits ranges from to kept) deep
    ∙ ap (λ i. by_list (verifier n) anchors (host_question n) deep_options i ranges from to kept) is.iterations
    ∙ ap (λ r. by_list (verifier n) anchors (host_question n) deep_options default_iterations r from to kept) is.ranges

-- ---- how it ends

ends_by : {H : Type 0} (meanings : handle.Ghosts H) (n : ℕ) (old new : H) (kept : CacheUse)
    (answer : Result ResponseValue NetError) (result : Result BenchCount NetError)
    → IsFresh kept → UnlessNoMemory answer (IsLookedUp meanings (bench_call n old new kept) (reply_of answer))
    → IsCounted (host_question n) answer result
    → EndsBench meanings n old (Some new) result
ends_by meanings n old new kept (Ok a) (Ok count) fresh is counted = Counted new kept a count fresh is counted
ends_by meanings n old new kept (Ok a) (Err f) fresh is counted = absurd counted
ends_by meanings n old new kept (Err e) (Ok count) fresh is counted = absurd counted
ends_by meanings n old new kept (Err e) (Err f) fresh (inl none) same =
    subst (λ x. EndsBench meanings n old (Some new) (Err x)) (sym (same ∙ none)) (OutOfMemory (Some new))
ends_by meanings n old new kept (Err e) (Err f) fresh (inr is) same =
    subst (λ x. EndsBench meanings n old (Some new) (Err x)) (sym same) (Failed new kept e fresh is)

module _ {H : Type 0} (meanings : handle.Ghosts H) (caches : cache.Ghosts CountedList) (n : ℕ) where
  pub ends_bench : (old new : DnssecDnsHandle H ListedValue CountedList) (q : Question)
      (options : DnsRequestOptions) (answer : Result ResponseValue NetError) (result : Result BenchCount NetError)
      → ((c : CountedList) → caches.told c ≡ Some c.list)
      → LooksUpBelow n old q → options ≡ deep_options
      → Promised meanings (call_of tests.ghosts caches old new q options moment) answer
      → IsCounted (host_question n) answer result
      → EndsBench meanings n (inner_of old) (Some (inner_of new)) result
  ends_bench old new q options answer result tells is deep p counts =
      let kept = use_of caches (cache_of old) (cache_of new) in
      let fresh : IsFresh kept = tells (cache_of old) ∙ ap (λ (c : CountedList). Some c.list) is.cache in
      let promised =
      subst (λ call. Promised meanings call answer) (same_call caches n old new q options is deep) p in
      ends_by meanings n (inner_of old) (inner_of new) kept answer result fresh
      (looked_up meanings _ _ _ _ _ _ (inner_of old) (inner_of new) kept answer promised) counts
