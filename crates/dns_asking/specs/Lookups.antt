-- What is asked of a server, and what a lookup over a handle promises that is made for it (RFC 4035, 4.3 and 5).
use Rattle.std.specs.Prelude.{ℕ}
use Rattle.dns_model.specs.Chains.{judge}
use Rattle.dns_model.specs.Gives.{Unless}
use Rattle.dns_evidence.specs.declared.verifier.Verifier as verifier
use Rattle.dns_handle.specs.Errors as seen
use Rattle.dns_handle.specs.Errors.{Reply}
use Rattle.dns_handle.specs.Requests.{plain_options}
use Rattle.dns_handle.specs.declared.request.DnsRequestOptions.{DnsRequestOptions}
use Rattle.dns_handle.specs.declared.handle.DnsHandle as handle
use Rattle.dns_validation.specs.Requests.{asking_request}
use Rattle.dns_lookup.specs.Calls.{Call, CacheUse}
use Rattle.dns_lookup.specs.Limiting.{default_iterations, default_ranges, IsFresh}
use Rattle.dns_lookup.specs.Sending.{IsLookedUp}
use Rattle.dns_asking.specs.declared.inquiry.Inquiry.{Inquiry}

-- options that ask for nothing but a depth
abbrev pub options_to : ℕ → DnsRequestOptions
options_to depth = record plain_options { max_request_depth = depth }

-- the lookup that is asked for, over a handle before it and after it: by these keys and this verifier, at this moment, with this use of a
-- cache
abbrev pub call_over : {H V : Type 0} → verifier.Ghosts V → Inquiry V → CacheUse → H → H → Call H
call_over tests inquiry kept old new = record {
  judge = judge (tests.answers inquiry.verifier) inquiry.anchors inquiry.moment;
  query = inquiry.query;
  request = asking_request inquiry.query (options_to inquiry.depth);
  options = options_to inquiry.depth;
  iterations = default_iterations;
  ranges = default_ranges;
  now = inquiry.moment;
  old = old;
  new = new;
  cache = kept;
}

-- all that a lookup promises of its sends and its answer, from a cache that was made for it, unless memory ran out
pub record LooksUp {H V : Type 0} (meanings : handle.Ghosts H) (tests : verifier.Ghosts V) (inquiry : Inquiry V)
    (old new : H) (reply : Reply) : Type 0 where
  pub kept : CacheUse
  pub fresh : IsFresh kept
  pub is : Unless seen.NoMemory reply (IsLookedUp meanings (call_over tests inquiry kept old new) reply)
