-- What a lookup over a handle promises that is made for it, out of the clauses of the validator's lookup.
use Rattle.std.proofs.Common.{◌≡◌, ◌∙◌, None, Some, Result, Ok, Err, IfOk, inl, inr, ap, refl, subst}
use Rattle.dns_model.specs.SoundAnswers.{ResponseValue}
use Rattle.dns_cache.specs.CacheLists.{CountedList}
use Rattle.dns_cache.specs.declared.validation_cache.ValidationCache as cache
use Rattle.dns_evidence.specs.declared.verifier.Verifier as verifier
use Rattle.dns_handle.specs.Errors as seen
use Rattle.dns_handle.specs.Replies.{reply_of}
use Rattle.dns_handle.specs.declared.error.NetError.{NetError}
use Rattle.dns_handle.specs.declared.request.DnsRequestOptions.{DnsRequestOptions}
use Rattle.dns_handle.specs.declared.handle.DnsHandle as handle
use Rattle.dns_lookup.specs.Calls.{Call, CacheUse, inner_of, cache_of, use_of, call_of}
use Rattle.dns_lookup.specs.Limiting.{default_entries, default_iterations, default_ranges, IsFresh}
use Rattle.dns_lookup.specs.declared.handle.DnssecDnsHandle.{DnssecDnsHandle}
use Rattle.dns_lookup.proofs.PromisedLemmas.{Promised, reply_looked_up}
use Rattle.dns_asking.specs.Lookups.{LooksUp, call_over, options_to}
use Rattle.dns_asking.specs.declared.inquiry.Inquiry.{Inquiry}

module _ {H V : Type 0} (meanings : handle.Ghosts H) (tests : verifier.Ghosts V) (inquiry : Inquiry V)
    (kept : CacheUse) (old new : H) where
  abbrev here : Call H
  here = call_over tests inquiry kept old new

  -- a lookup from a cache that was made for it
  pub looked_up : (result : Result ResponseValue NetError) → IsFresh kept → Promised meanings here result
      → LooksUp meanings tests inquiry old new (reply_of result)
  looked_up result fresh p = record {
    kept = kept;
    fresh = fresh;
    is = reply_looked_up meanings here.judge inquiry.query here.options here.iterations here.ranges inquiry.moment old new kept result p;
  }

-- memory ran out before it
pub not_looked_up : {H V : Type 0} (meanings : handle.Ghosts H) (tests : verifier.Ghosts V) (inquiry : Inquiry V)
    (still : H) → LooksUp meanings tests inquiry still still (Err seen.NoMemory)
not_looked_up meanings tests inquiry still = record {
  kept = record { before = Some default_entries; after = None; hits_before = 0; hits_after = 0 };
  fresh = refl;
  is = inl refl;
}

-- ---- a validator that is made for it

abbrev pub validator_for : {H V : Type 0} → H → Inquiry V → CountedList → DnssecDnsHandle H V CountedList
validator_for over inquiry cache = record {
  handle = over;
  anchors = inquiry.anchors;
  verifier = inquiry.verifier;
  cache = cache;
  ranges = default_ranges;
  iterations = default_iterations;
  sends = 0;
  faults = 0;
}

module _ {H V : Type 0} (meanings : handle.Ghosts H) (tests : verifier.Ghosts V) (caches : cache.Ghosts CountedList)
    (inquiry : Inquiry V) where
  -- a lookup by it is the one that is asked for
  same_call : (over : H) (kept : CountedList) (old new : DnssecDnsHandle H V CountedList) (options : DnsRequestOptions)
      → old ≡ validator_for over inquiry kept → options ≡ options_to inquiry.depth
      → call_of tests caches old new inquiry.query options inquiry.moment
      ≡ call_over tests inquiry (use_of caches kept (cache_of new)) over (inner_of new)
  same_call over kept old new options is deep =
      ap (λ v. call_of tests caches v new inquiry.query options inquiry.moment) is
      ∙ ap (λ o. call_of tests caches (validator_for over inquiry kept) new inquiry.query o inquiry.moment) deep

  pub looks_up : (over : H) (kept : CountedList) (old new : DnssecDnsHandle H V CountedList)
      (options : DnsRequestOptions) (result : Result ResponseValue NetError)
      → old ≡ validator_for over inquiry kept → options ≡ options_to inquiry.depth
      → caches.told kept ≡ Some (kept.list) → kept ≡ record { list = default_entries; hits = 0 }
      → Promised meanings (call_of tests caches old new inquiry.query options inquiry.moment) result
      → LooksUp meanings tests inquiry over (inner_of new) (reply_of result)
  looks_up over kept old new options result is deep tells empty p =
      looked_up meanings tests inquiry (use_of caches kept (cache_of new)) over (inner_of new) result
      (tells ∙ ap (λ (c : CountedList). Some c.list) empty)
      (subst (λ call. Promised meanings call result) (same_call over kept old new options is deep) p)
