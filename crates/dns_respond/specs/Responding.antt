-- One exchange of a validating forwarder: a request, the lookup of its question, and the reply (RFC 1035, 4.1.1; RFC 4035, 3.2 and 5).
use Rattle.std.specs.Prelude.{ℕ, ◌≡◌, ◌⊎◌, ◌≤◌, true, Option, None, Some, Result, Ok, Err, IfOk}
use Rattle.dns_model.specs.Records.{Question}
use Rattle.dns_model.specs.SoundAnswers.{ResponseValue}
use Rattle.dns_record.specs.declared.no_memory.NoMemory.{NoMemory}
use Rattle.dns_evidence.specs.declared.verifier.Verifier as verifier
use Rattle.dns_handle.specs.Handles.{OrUnsent}
use Rattle.dns_handle.specs.Replies.{reply_of}
use Rattle.dns_handle.specs.Requests.{plain_options}
use Rattle.dns_handle.specs.declared.error.NetError.{NetError}
use Rattle.dns_handle.specs.declared.handle.DnsHandle as handle
use Rattle.dns_handle.specs.declared.protocol.Protocol.{Protocol}
use Rattle.dns_handle.specs.declared.request.DnsRequestOptions.{DnsRequestOptions}
use Rattle.dns_cache.specs.declared.validation_cache.ValidationCache as cache
use Rattle.dns_lookup.specs.Caching.{UsesCache}
use Rattle.dns_lookup.specs.Calls.{Call, Asking, inner_of, verifier_of, cache_of, use_of, call_of, terms_of_call}
use Rattle.dns_lookup.specs.Causes.{HasItsCause, PassesOn, ForeignNamed, AnswersTold}
use Rattle.dns_lookup.specs.Completing.{Completes}
use Rattle.dns_lookup.specs.Fronts.{IsFront}
use Rattle.dns_lookup.specs.LookupAnswers.{UnlessNoMemory, WhereTold, OfAnswer, IsSoundAnswer, IsTrail, IsExplained, ShowsItsDenial, DeniesQuery}
use Rattle.dns_lookup.specs.Sending.{CountsSend}
use Rattle.dns_lookup.specs.Sends.{SendsFor}
use Rattle.dns_lookup.specs.declared.handle.DnssecDnsHandle.{DnssecDnsHandle}
use Rattle.dns_forwarded.specs.Outcomes.{outcome_of}
use Rattle.dns_forwarded.specs.Replies.{forwarded}
use Rattle.dns_forwarded.specs.Requests.{query_of, received_of}
use Rattle.dns_forwarded.specs.declared.outcome.Outcome.{Outcome}
use Rattle.dns_forwarded.specs.declared.outcome.Outcome.TheVariants as outcome
use Rattle.dns_respond.specs.declared.exchanged.Exchanged.{Exchanged}

-- how a question is looked up: as by default, but with DO, and with asks at most so deep
abbrev pub forwarding_options : ℕ → DnsRequestOptions
forwarding_options depth = record plain_options { edns_set_dnssec_ok = true; max_request_depth = depth }

module _ {H V C : Type 0} (meanings : handle.Ghosts H) (tests : verifier.Ghosts V) (caches : cache.Ghosts C) where
  -- the call of one lookup of a question, this deep and at this moment
  abbrev pub call_at : DnssecDnsHandle H V C → DnssecDnsHandle H V C → Question → ℕ → ℕ → Call H
  call_at old new q depth now = call_of tests caches old new q (forwarding_options depth) now

  -- a validator went from one state to another by one lookup of a question, which found this: all that a lookup promises
  pub record LooksUp (old new : DnssecDnsHandle H V C) (q : Question) (depth now : ℕ) (found : Result ResponseValue NetError) : Type 0 where
    pub counted : CountsSend old new (reply_of found)
    pub later : meanings.faults (inner_of old) ≤ meanings.faults (inner_of new)
    pub sends : OrUnsent (inner_of old) (inner_of new) found
        (SendsFor (Asking meanings (forwarding_options depth) now) (inner_of old) (inner_of new) q)
    pub front : IsFront meanings (terms_of_call (call_at old new q depth now)) (use_of caches (cache_of old) (cache_of new))
        (inner_of old) (inner_of new) (reply_of found)
    pub sound : OfAnswer (reply_of found) (λ a ending. IsSoundAnswer meanings (call_at old new q depth now) a)
    pub trail : OfAnswer (reply_of found) (λ a ending. IsTrail meanings (call_at old new q depth now) a.trail ending)
    pub explained : OfAnswer (reply_of found)
        (λ a ending. IsExplained (tests.answers (verifier_of old)) (caches.told (cache_of old)) now a)
    pub cached : OfAnswer (reply_of found) (λ a ending. UsesCache (call_at old new q depth now) a.trail)
    pub denies : IfOk found (λ a. ShowsItsDenial now q a)
    pub denied : DeniesQuery q (reply_of found)
    pub caused : HasItsCause meanings (call_at old new q depth now) (reply_of found)
    pub passes : WhereTold meanings old q found PassesOn
    pub names_foreign : WhereTold meanings old q found ForeignNamed
    pub answers : WhereTold meanings old q found AnswersTold
    pub completes : UnlessNoMemory found
        (Completes (meanings.told (inner_of old)) (call_at old new q depth now) (reply_of found))

  -- one lookup that came to this
  pub record ComesTo (old new : DnssecDnsHandle H V C) (q : Question) (depth now : ℕ) (o : Outcome) : Type 0 where
    pub found : Result ResponseValue NetError
    pub came : outcome_of found ≡ Some o
    pub looked : LooksUp old new q depth now found

  -- what was looked up: nothing, and the validator is as before; or a question, by one lookup
  abbrev pub LeadsTo : Option Question → DnssecDnsHandle H V C → DnssecDnsHandle H V C → ℕ → ℕ → Outcome → Type 0
  LeadsTo None old new depth now o = (o ≡ outcome.None) × (new ≡ old)
  LeadsTo (Some q) old new depth now o = ComesTo old new q depth now o

  -- what want of memory leaves: the validator as before, or as one lookup of the question left it
  pub record LooksUpAny (old new : DnssecDnsHandle H V C) (q : Question) (depth now : ℕ) : Type 0 where
    pub found : Result ResponseValue NetError
    pub looked : LooksUp old new q depth now found

  abbrev pub Leaves : Option Question → DnssecDnsHandle H V C → DnssecDnsHandle H V C → ℕ → ℕ → Type 0
  Leaves None old new depth now = new ≡ old
  Leaves (Some q) old new depth now = (new ≡ old) ⊎ LooksUpAny old new q depth now

  -- by whether a call came to an outcome
  abbrev pub Looks : Option Question → DnssecDnsHandle H V C → DnssecDnsHandle H V C → ℕ → ℕ → Result Outcome NoMemory → Type 0
  Looks q old new depth now (Ok o) = LeadsTo q old new depth now o
  Looks q old new depth now (Err e) = Leaves q old new depth now

  -- an exchange: its reply is the one that belongs to the request and the outcome, and the outcome is that of one lookup, where there is a
  -- question to look up
  pub record Responds (old new : DnssecDnsHandle H V C) (protocol : Protocol) (depth : ℕ) (e : Exchanged) : Type 0 where
    pub reply : e.reply ≡ forwarded e.request protocol e.outcome
    pub lookup : LeadsTo (query_of (received_of e.request)) old new depth e.moment e.outcome

-- the outcome of an exchange, if there is one
abbrev pub outcome_in : Result Exchanged NoMemory → Result Outcome NoMemory
outcome_in (Ok e) = Ok e.outcome
outcome_in (Err e) = Err e
