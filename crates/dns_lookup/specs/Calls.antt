-- What the clauses of a lookup speak of: the call, its asks, and its validator's parts (RFC 4035, 4.1 and 5).
use Rattle.std.specs.Prelude.{ℕ, ◌≡◌, ◌⊎◌, ◌≤◌, true, List, Option, Some, Ok, Err}
use Rattle.dns_model.specs.Counts.{Rose}
use Rattle.dns_model.specs.Records.{Question}
use Rattle.dns_model.specs.Keys.{AnchorValue}
use Rattle.dns_model.specs.Chains.{Judge, judge}
use Rattle.dns_rules.specs.Asking.{Limits}
use Rattle.dns_handle.specs.Errors as seen
use Rattle.dns_handle.specs.Errors.{Reply}
use Rattle.dns_handle.specs.ErrorKinds.{is_no_records_found}
use Rattle.dns_handle.specs.Handles.{ReplyIsTold, IsLeft}
use Rattle.dns_handle.specs.Requests.{RequestValue}
use Rattle.dns_handle.specs.declared.request.DnsRequestOptions.{DnsRequestOptions}
use Rattle.dns_handle.specs.declared.handle.DnsHandle as handle
use Rattle.dns_cache.specs.CacheLists.{CacheList}
use Rattle.dns_cache.specs.Expiry.{TtlRangesValue}
use Rattle.dns_cache.specs.declared.validation_cache.ValidationCache as cache
use Rattle.dns_evidence.specs.declared.limits.IterationLimits.{IterationLimits}
use Rattle.dns_evidence.specs.declared.verifier.Verifier as verifier
use Rattle.dns_flow.specs.declared.asks.Ask.{Ask}
use Rattle.dns_validation.specs.Machine.{Terms}
use Rattle.dns_validation.specs.Requests.{asking_request, request_for}
use Rattle.dns_lookup.specs.declared.handle.DnssecDnsHandle.{DnssecDnsHandle}

-- the handle that a validator asks
abbrev pub inner_of : {H V C : Type 0} → DnssecDnsHandle H V C → H
inner_of validator = validator.handle

-- the keys that it trusts
abbrev pub anchors_of : {H V C : Type 0} → DnssecDnsHandle H V C → List AnchorValue
anchors_of validator = validator.anchors

-- what was kept
abbrev pub cache_of : {H V C : Type 0} → DnssecDnsHandle H V C → C
cache_of validator = validator.cache

-- for how long what it finds is kept
abbrev pub ranges_of : {H V C : Type 0} → DnssecDnsHandle H V C → TtlRangesValue
ranges_of validator = validator.ranges

-- what tests its signatures
abbrev pub verifier_of : {H V C : Type 0} → DnssecDnsHandle H V C → V
verifier_of validator = validator.verifier

-- how many iterations of the hash of NSEC3 records it counts
abbrev pub iterations_of : {H V C : Type 0} → DnssecDnsHandle H V C → IterationLimits
iterations_of validator = validator.iterations

-- what a cache tells before a lookup and after it, where it tells its entries, and how often it was hit
pub record CacheUse : Type 0 where
  pub before : Option CacheList
  pub after : Option CacheList
  pub hits_before : ℕ
  pub hits_after : ℕ

abbrev pub use_of : {C : Type 0} → cache.Ghosts C → C → C → CacheUse
use_of caches old new = record {
  before = caches.told old;
  after = caches.told new;
  hits_before = caches.hits old;
  hits_after = caches.hits new;
}

-- a lookup: by what it judges, its query, the request that it sends for that, its options, how many iterations of a hash it
-- counts, for how long what it finds is kept and its moment in seconds, the handle before it and after it, and its use of a cache
pub record Call (H : Type 0) : Type 0 where
  pub judge : Judge
  pub query : Question
  pub request : RequestValue
  pub options : DnsRequestOptions
  pub iterations : IterationLimits
  pub ranges : TtlRangesValue
  pub now : ℕ
  pub old : H
  pub new : H
  pub cache : CacheUse

-- how far it goes
abbrev pub limits_of_call : {H : Type 0} → Call H → Limits
limits_of_call call = record {
  depth = call.options.max_request_depth;
  soft = call.iterations.soft;
  hard = call.iterations.hard;
}

-- by what the validation of a call judges and asks
abbrev pub terms_of_call : {H : Type 0} → Call H → Terms
terms_of_call call = record {
  judge = call.judge;
  query = call.query;
  request = call.request;
  options = call.options;
  iterations = call.iterations;
  ranges = call.ranges;
  now = call.now;
}

-- a call of a validator: it sends its query's own request
abbrev pub call_of : {H V C : Type 0} → verifier.Ghosts V → cache.Ghosts C → DnssecDnsHandle H V C → DnssecDnsHandle H V C
    → Question → DnsRequestOptions → ℕ → Call H
call_of tests caches old new q options now = record {
  judge = judge (tests.answers (verifier_of old)) (anchors_of old) now;
  query = q;
  request = asking_request q options;
  options = options;
  iterations = iterations_of old;
  ranges = ranges_of old;
  now = now;
  old = inner_of old;
  new = inner_of new;
  cache = use_of caches (cache_of old) (cache_of new);
}

-- an error other than want of memory and that there are no records comes only where the count of faults rose
abbrev pub IsCaused : ℕ → ℕ → Reply → Type 0
IsCaused before after (Ok response) = Unit {0}
IsCaused before after (Err error) = (error ≡ seen.NoMemory) ⊎ ((is_no_records_found error ≡ true) ⊎ Rose before after)

-- one send of a request with this first question, at the moment of a call; its reply is the one that the handle tells at that
-- send, where it tells its replies
pub record Sending {H : Type 0} (meanings : handle.Ghosts H) (request : RequestValue) (asked : Option Question) (now : ℕ)
    (from to : H) (reply : Reply) : Type 0 where
  pub made : meanings.sent from asked to reply
  pub carried : meanings.requested from request now to reply
  pub told : ReplyIsTold (meanings.told from) asked reply
  pub left : IsLeft (meanings.told from) asked reply (meanings.told to)
  pub later : meanings.faults from ≤ meanings.faults to
  pub cause : IsCaused (meanings.faults from) (meanings.faults to) reply

-- one ask of a lookup: a send of its own request
abbrev pub Asking : {H : Type 0} → handle.Ghosts H → DnsRequestOptions → ℕ → H → Ask → H → Reply → Type 0
Asking meanings options now from ask to reply = Sending meanings (request_for options ask) (Some ask.query) now from to reply

-- one ask by a request that is given
abbrev pub Requesting : {H : Type 0} → handle.Ghosts H → RequestValue → ℕ → H → Ask → H → Reply → Type 0
Requesting meanings request now from ask to reply = Sending meanings request (Some ask.query) now from to reply

-- an ask of a call
abbrev pub ask_of_call : {H : Type 0} → handle.Ghosts H → Call H → H → Ask → H → Reply → Type 0
ask_of_call meanings call = Asking meanings call.options call.now

-- its first ask, the one for its query
abbrev pub first_ask_of_call : {H : Type 0} → handle.Ghosts H → Call H → H → Ask → H → Reply → Type 0
first_ask_of_call meanings call = Requesting meanings call.request call.now
