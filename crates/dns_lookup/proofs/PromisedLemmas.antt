-- What the clauses of a lookup say together: all that it promises, unless memory ran out.
use Rattle.std.proofs.Common.{ℕ, Result, Ok, Err, IfOk, inl, inr, ap}
use Rattle.dns_model.specs.Chains.{Judge}
use Rattle.dns_model.specs.Gives.{Unless}
use Rattle.dns_model.specs.Records.{Question}
use Rattle.dns_model.specs.SoundAnswers.{ResponseValue}
use Rattle.dns_cache.specs.Expiry.{TtlRangesValue}
use Rattle.dns_evidence.specs.declared.limits.IterationLimits.{IterationLimits}
use Rattle.dns_handle.specs.Errors as seen
use Rattle.dns_handle.specs.Handles.{OrUnsent}
use Rattle.dns_handle.specs.Replies.{error_of, reply_of}
use Rattle.dns_handle.specs.declared.error.NetError.{NetError}
use Rattle.dns_handle.specs.declared.request.DnsRequestOptions.{DnsRequestOptions}
use Rattle.dns_handle.specs.declared.handle.DnsHandle as handle
use Rattle.dns_validation.specs.Requests.{asking_request}
use Rattle.dns_lookup.specs.Caching.{UsesCache}
use Rattle.dns_lookup.specs.Calls.{Call, CacheUse, Asking, terms_of_call}
use Rattle.dns_lookup.specs.Causes.{HasItsCause, PassesOn, ForeignNamed, AnswersTold}
use Rattle.dns_lookup.specs.Completing.{Completes}
use Rattle.dns_lookup.specs.Fronts.{IsFront}
use Rattle.dns_lookup.specs.LookupAnswers.{UnlessNoMemory, OfAnswer, IsSoundAnswer, IsTrail, IsExplained, ShowsItsDenial, DeniesQuery}
use Rattle.dns_lookup.specs.Sending.{IsLookedUp}
use Rattle.dns_lookup.specs.Sends.{SendsFor}

-- which sends a lookup makes for a call's query
abbrev pub SendsOf : {H : Type 0} → handle.Ghosts H → Call H → Type 0
SendsOf meanings call = SendsFor (Asking meanings call.options call.now) call.old call.new call.query

-- what the clauses of a lookup say of a call
pub record Promised {H : Type 0} (meanings : handle.Ghosts H) (call : Call H)
    (result : Result ResponseValue NetError) : Type 0 where
  pub sends : OrUnsent call.old call.new result (SendsOf meanings call)
  pub front : IsFront meanings (terms_of_call call) call.cache call.old call.new (reply_of result)
  pub sound : OfAnswer (reply_of result) (λ a ending. IsSoundAnswer meanings call a)
  pub trail : OfAnswer (reply_of result) (λ a ending. IsTrail meanings call a.trail ending)
  pub cached : OfAnswer (reply_of result) (λ a ending. UsesCache call a.trail)
  pub explained : OfAnswer (reply_of result) (λ a ending. IsExplained call.judge.answers call.cache.before call.now a)
  pub denies : IfOk result (λ a. ShowsItsDenial call.now call.query a)
  pub denied : DeniesQuery call.query (reply_of result)
  pub caused : HasItsCause meanings call (reply_of result)
  pub passes : UnlessNoMemory result (PassesOn (meanings.told call.old) call.query (reply_of result))
  pub names_foreign : UnlessNoMemory result (ForeignNamed (meanings.told call.old) call.query (reply_of result))
  pub answers : UnlessNoMemory result (AnswersTold (meanings.told call.old) call.query (reply_of result))
  pub completes : UnlessNoMemory result (Completes (meanings.told call.old) call (reply_of result))

-- want of memory is seen as that
unless_seen : (result : Result ResponseValue NetError) (Fact : Type 0) → UnlessNoMemory result Fact
    → Unless seen.NoMemory (reply_of result) Fact
unless_seen (Ok a) Fact fact = fact
unless_seen (Err e) Fact (inl none) = inl (ap error_of none)
unless_seen (Err e) Fact (inr fact) = inr fact

if_ok : (result : Result ResponseValue NetError) (Fact : ResponseValue → Type 0) → IfOk result Fact
    → IfOk (reply_of result) Fact
if_ok (Ok a) Fact fact = fact
if_ok (Err e) Fact fact = fact

-- the lookup of a query by that query's own request
abbrev pub call_with : {H : Type 0} → Judge → Question → DnsRequestOptions → IterationLimits → TtlRangesValue → ℕ → H → H → CacheUse
    → Call H
call_with j q options iterations ranges now old new kept = record {
  judge = j;
  query = q;
  request = asking_request q options;
  options = options;
  iterations = iterations;
  ranges = ranges;
  now = now;
  old = old;
  new = new;
  cache = kept;
}

module _ {H : Type 0} (meanings : handle.Ghosts H) (j : Judge) (q : Question) (options : DnsRequestOptions)
    (iterations : IterationLimits) (ranges : TtlRangesValue) (now : ℕ) (old new : H) (kept : CacheUse) where
  abbrev here : Call H
  here = call_with j q options iterations ranges now old new kept

  looked : (result : Result ResponseValue NetError) → Promised meanings here result → SendsOf meanings here
      → IsLookedUp meanings here (reply_of result)
  looked result p sent = record {
    sends = record {
      middle = sent.middle;
      reply = sent.reply;
      sends = sent.sends;
      first = sent.first;
      others = sent.others;
      few = sent.few;
    };
    front = p.front;
    sound = p.sound;
    trail = p.trail;
    cached = p.cached;
    explained = p.explained;
    denies = if_ok result (λ a. ShowsItsDenial now q a) p.denies;
    denied = p.denied;
    caused = p.caused;
    passes = unless_seen result _ p.passes;
    names_foreign = unless_seen result _ p.names_foreign;
    answers = unless_seen result _ p.answers;
    completes = unless_seen result _ p.completes;
  }

  looked_by : (result : Result ResponseValue NetError) → Promised meanings here result
      → OrUnsent old new result (SendsOf meanings here)
      → UnlessNoMemory result (IsLookedUp meanings here (reply_of result))
  looked_by (Ok a) p sent = looked (Ok a) p sent
  looked_by (Err e) p (inl sent) = inr (looked (Err e) p sent)
  looked_by (Err e) p (inr none) = inl none.0

  -- all that was promised
  pub looked_up : (result : Result ResponseValue NetError) → Promised meanings here result
      → UnlessNoMemory result (IsLookedUp meanings here (reply_of result))
  looked_up result p = looked_by result p p.sends

  -- the same of what is seen of a result
  pub reply_looked_up : (result : Result ResponseValue NetError) → Promised meanings here result
      → Unless seen.NoMemory (reply_of result) (IsLookedUp meanings here (reply_of result))
  reply_looked_up result p = unless_seen result _ (looked_up result p)
