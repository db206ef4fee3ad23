-- What a validator answers to a whole request, put together from the lookup that it makes.
use Rattle.std.proofs.Common.{ℕ, ◌≡◌, ◌≢◌, ◌==◌, ◌∙◌, Bool, true, false, [], Option, None, Some, Result, Ok, Err, refl, sym, ap, subst, inl, inr, if◌then◌else◌}
use Rattle.dns_model.specs.Chains.{Judge}
use Rattle.dns_model.specs.Gives.{Unless}
use Rattle.dns_model.specs.Records.{Question, EdnsValue}
use Rattle.dns_model.specs.SoundAnswers.{ResponseValue}
use Rattle.dns_model.proofs.SetLemmas.{number_refl, number_same}
use Rattle.dns_handle.specs.Errors as seen
use Rattle.dns_handle.specs.Errors.{Reply, Message}
use Rattle.dns_handle.specs.Handles.{OrUnsent}
use Rattle.dns_handle.specs.Replies.{reply_of, error_of}
use Rattle.dns_handle.specs.Requests.{RequestValue, first_question, plain_options, query_message, request_of}
use Rattle.dns_handle.specs.declared.error.NetError.{NetError}
use Rattle.dns_handle.specs.declared.handle.DnsHandle as handle
use Rattle.dns_handle.specs.declared.notice.Notice.TheVariants.{NoQueryInRequest}
use Rattle.dns_handle.specs.declared.request.DnsRequestOptions.{DnsRequestOptions}
use Rattle.dns_evidence.specs.declared.limits.IterationLimits.{IterationLimits}
use Rattle.dns_validation.specs.Requests.{asking_options, asking_request, checked_edns, checked_request}
use Rattle.dns_lookup.specs.Answering.{AnswersLookup}
use Rattle.dns_cache.specs.CacheLists.{CacheList}
use Rattle.dns_cache.specs.Expiry.{TtlRangesValue}
use Rattle.dns_lookup.specs.Caching.{UsesCache}
use Rattle.dns_lookup.specs.Calls.{Call, CacheUse, Sending, ask_of_call, first_ask_of_call, terms_of_call}
use Rattle.dns_lookup.specs.LookupAnswers.{UnlessNoMemory, OfAnswer}
use Rattle.dns_lookup.specs.Sending.{call_for, IsUnused, IsLookedUp, AnswersRequest, Goes, Refused, LookedUp, Unsent}
use Rattle.dns_lookup.specs.Sends.{SendsBy}
use Rattle.dns_lookup.specs.Fronts.{IsFront, SendsOfTerms}
use Rattle.dns_lookup.proofs.FrontLemmas.{unsent_front}
use Rattle.dns_lookup.proofs.CompletingLemmas.{lookup_completes}
use Rattle.dns_lookup.proofs.CauseLemmas.{no_both, lookup_passes}
use Rattle.dns_lookup.proofs.ForeignLemmas.{lookup_names_foreign, lookup_caused}
use Rattle.dns_lookup.proofs.LookupAnswerLemmas.{lookup_sound, lookup_trail, lookup_denied}
use Rattle.dns_lookup.proofs.AnsweredLemmas.{lookup_answers}
use Rattle.dns_lookup.proofs.DenyingLemmas.{lookup_explained, lookup_denies}

-- ---- the request

-- an OPT record by options, to be validated
edns_checked : (uses dnssec_ok : Bool) (payload : ℕ)
    → checked_edns
    (if uses then Some
    (record { max_payload = payload; version = 0; dnssec_ok = dnssec_ok; flags = 0; options = [] }) else None)
    ≡ record {
      max_payload =
          if uses then payload else plain_options.edns_payload_len;
      version =
          0;
      dnssec_ok = true;
      flags = 0;
      options = [];
    }
edns_checked true dnssec_ok payload = refl
edns_checked false dnssec_ok payload = refl

-- the request of a judged ask is that of its query, as a validator sends it
pub checked_query : (q : Question) (options : DnsRequestOptions)
    → checked_request (request_of q options) ≡ asking_request q options
checked_query q options =
    let Sent : EdnsValue → RequestValue = λ edns. record {
      message = record (query_message q (asking_options options)) { authentic_data = true; edns = Some edns };
      options = asking_options options;
      original = None;
    } in
    ap Sent (edns_checked options.use_edns options.edns_set_dnssec_ok options.edns_payload_len)

-- ---- the lookup

-- a fact unless memory ran out, by the reply that a result is
unless_seen : (result : Result ResponseValue NetError) (Fact : Type 0) → UnlessNoMemory result Fact
    → Unless seen.NoMemory (reply_of result) Fact
unless_seen (Ok a) Fact fact = fact
unless_seen (Err e) Fact (inl memory) = inl (ap error_of memory)
unless_seen (Err e) Fact (inr fact) = inr fact

-- all that is promised of a lookup, by how it came to its answer
pub looked_up : {H : Type 0} (meanings : handle.Ghosts H) (call : Call H) (result : Result ResponseValue NetError)
    → IsFront meanings (terms_of_call call) call.cache call.old call.new (reply_of result)
    → SendsBy (first_ask_of_call meanings call) (ask_of_call meanings call) call.old call.new call.query
    → UnlessNoMemory result (AnswersLookup meanings call (reply_of result))
    → OfAnswer (reply_of result) (λ a ending. UsesCache call a.trail)
    → IsLookedUp meanings call (reply_of result)
looked_up meanings call result front sends lookup cached = record {
  sends = sends;
  front = front;
  cached = cached;
  sound = lookup_sound meanings call result lookup;
  trail = lookup_trail meanings call result lookup;
  explained = lookup_explained meanings call result lookup;
  denies = lookup_denies meanings call result lookup;
  denied = lookup_denied meanings call result lookup;
  caused = lookup_caused meanings call result lookup;
  passes = unless_seen result _ (lookup_passes meanings call result lookup);
  names_foreign = unless_seen result _ (lookup_names_foreign meanings call result lookup);
  answers = unless_seen result _ (lookup_answers meanings call result lookup);
  completes = unless_seen result _ (lookup_completes meanings call result lookup);
}

-- ---- each case of a request

pub other_code : (code : ℕ) (query : Bool) → query ≡ (code == 0) → query ≡ false → code ≢ 0
other_code code query by other zero = no_both query (by ∙ ap (λ n. n == 0) zero ∙ number_refl 0) other

-- memory ran out before a query was sent
asked_some : (o : Option Question) → o ≢ None → (P : Question → Type 0) → ((q : Question) → o ≡ Some q → P q)
    → (Q : Type 0) → ((q : Question) → o ≡ Some q → P q → Q) → Q
asked_some None some P all Q f = absurd (some refl)
asked_some (Some q) some P all Q f = f q refl (all q refl)

module _ {H : Type 0} (meanings : handle.Ghosts H) (j : Judge) (request : RequestValue) (iterations : IterationLimits)
    (ranges : TtlRangesValue) (now : ℕ) where
  -- how it is answered
  abbrev Answers : CacheUse → H → H → Reply → Type 0
  Answers = AnswersRequest meanings j request iterations ranges now

  -- the lookup of a question by it
  abbrev call_at : Question → CacheUse → H → H → Call H
  call_at q = call_for j request q iterations ranges now

  -- a request that isn't a query goes on
  pub goes_on : (kept : CacheUse) (old new : H) (result : Result ResponseValue NetError) → request.message.op_code ≢ 0
      → Sending meanings request (first_question request) now old new (reply_of result) → IsUnused kept
      → AnswersRequest meanings j request iterations ranges now kept old new (reply_of result)
  goes_on kept old new result other sent unused = Goes (reply_of result) other sent unused

  -- a query without a question is refused
  pub refuses : (kept : CacheUse) (still : H) (query : Bool) → query ≡ (request.message.op_code == 0) → query ≡ true
      → first_question request ≡ None → IsUnused kept
      → AnswersRequest meanings j request iterations ranges now kept still still (Err (Message NoQueryInRequest))
  refuses kept still query by is none unused =
      Refused (number_same request.message.op_code 0 (sym by ∙ is)) none refl unused

  pub forgets : (before : Option CacheList) (hits : ℕ) (still : H) (query : Bool)
      → query ≡ (request.message.op_code == 0) → query ≡ true → first_question request ≢ None
      → AnswersRequest meanings j request iterations ranges now
      (record { before = before; after = before; hits_before = hits; hits_after = hits }) still still
      (Err seen.NoMemory)
  forgets before hits still query by is some =
      let kept : CacheUse = record { before = before; after = before; hits_before = hits; hits_after = hits } in
      asked_some (first_question request) some
      (λ q. IsFront meanings (terms_of_call (call_at q kept still still)) kept still still (Err seen.NoMemory))
      (λ q asks. unsent_front meanings (terms_of_call (call_at q kept still still)) before hits still)
      (Answers kept still still (Err seen.NoMemory))
      (λ q asks front. Unsent q (number_same request.message.op_code 0 (sym by ∙ is)) asks refl front)

  -- a query is looked up by what is sent for it, unless memory ran out before that
  pub looks_up : (kept : CacheUse) (old new : H) (q : Question) (query : Bool) (result : Result ResponseValue NetError)
      → query ≡ (request.message.op_code == 0) → query ≡ true → first_question request ≡ Some q
      → IsFront meanings (terms_of_call (call_for j request q iterations ranges now kept old new)) kept old new
      (reply_of result)
      → OrUnsent old new result
      (SendsOfTerms meanings (terms_of_call (call_for j request q iterations ranges now kept old new)) old new)
      → UnlessNoMemory result
      (AnswersLookup meanings (call_for j request q iterations ranges now kept old new) (reply_of result))
      → OfAnswer (reply_of result)
      (λ a ending. UsesCache (call_for j request q iterations ranges now kept old new) a.trail)
      → AnswersRequest meanings j request iterations ranges now kept old new (reply_of result)
  looks_up kept old new q query (Ok a) by is asks front sends lookup cached =
      LookedUp (Ok a) q (number_same request.message.op_code 0 (sym by ∙ is)) asks
      (looked_up meanings (call_at q kept old new) (Ok a) front sends lookup cached)
  looks_up kept old new q query (Err e) by is asks front (inl sends) lookup cached =
      LookedUp (Err (error_of e)) q (number_same request.message.op_code 0 (sym by ∙ is)) asks
      (looked_up meanings (call_at q kept old new) (Err e) front sends lookup cached)
  looks_up kept old new q query (Err e) by is asks front (inr unsent) lookup cached =
      subst (λ x. Answers kept old new (Err (error_of x))) (sym unsent.0)
      (Unsent q (number_same request.message.op_code 0 (sym by ∙ is)) asks unsent.1
      (subst (λ x. IsFront meanings (terms_of_call (call_at q kept old new)) kept old new (Err (error_of x))) unsent.0
      front))
