-- What AD in the reply of an exchange says is so.
use Rattle.std.proofs.Common.{◌≡◌, ℕ, true, List, Option, None, Some, Result, Ok, Err, refl, sym, ap, ◌∙◌, subst}
use Rattle.std.specs.Prelude.{IfSome}
use Rattle.dns_model.specs.Chains.{judge}
use Rattle.dns_model.specs.Records.{Question}
use Rattle.dns_model.specs.SoundAnswers.{ResponseValue, told_by}
use Rattle.dns_evidence.specs.declared.verifier.Verifier as verifier
use Rattle.dns_handle.specs.declared.error.NetError.{NetError}
use Rattle.dns_handle.specs.declared.error.NetError.TheVariants as error
use Rattle.dns_handle.specs.declared.error.DnsError.TheVariants as dns_error
use Rattle.dns_handle.specs.declared.handle.DnsHandle as handle
use Rattle.dns_cache.specs.declared.validation_cache.ValidationCache as cache
use Rattle.dns_handle.specs.declared.protocol.Protocol.{Protocol}
use Rattle.dns_lookup.specs.Calls.{anchors_of, verifier_of}
use Rattle.dns_lookup.specs.declared.handle.DnssecDnsHandle.{DnssecDnsHandle}
use Rattle.dns_forwarded.specs.Outcomes.{outcome_of}
use Rattle.dns_forwarded.specs.declared.outcome.Outcome.{Outcome}
use Rattle.dns_forwarded.specs.declared.outcome.Outcome.TheVariants as outcome
use Rattle.dns_forwarded.specs.Laws.{has_ad}
use Rattle.dns_forwarded.specs.Replies.{forwarded, is_authentic}
use Rattle.dns_forwarded.specs.Requests.{query_by, query_of, received_of}
use Rattle.dns_forwarded.proofs.LawLemmas.{forwarded_authentic}
use Rattle.dns_respond.specs.Authentic.{IsProved, AnswersProved}
use Rattle.dns_respond.proofs.AuthenticLemmas.{authentic_proved}
use Rattle.dns_respond.specs.Responding.{LooksUp, LeadsTo}

-- what was found, where it came to this
abbrev IsFoundFor : Result ResponseValue NetError → Outcome → Type 0
IsFoundFor found outcome.None = ⊥
IsFoundFor found (outcome.Answered response) = found ≡ Ok response
IsFoundFor found (outcome.Denied response proof) = Unit {0}
IsFoundFor found (outcome.Failed error) = Unit {0}

failed : (found : Result ResponseValue NetError) (e : NetError) (o : Outcome)
    → (let made : Option Outcome = Some (outcome.Failed e) in made) ≡ Some o → IsFoundFor found o
failed found e o h = let same : outcome.Failed e ≡ o = cc in subst (IsFoundFor found) same tt

-- a lookup comes to something, and only what is Ok to an answer
found_for : (found : Result ResponseValue NetError) (o : Outcome) → outcome_of found ≡ Some o → IsFoundFor found o
found_for (Ok response) o h =
    let same : outcome.Answered response ≡ o = cc in subst (IsFoundFor (Ok response)) same refl
found_for (Err error.NoMemory) o h = absurd cc
found_for (Err (error.Dns (dns_error.Nsec query response proof))) o h =
    let same : outcome.Denied response.value proof ≡ o = cc in
    subst (IsFoundFor (Err (error.Dns (dns_error.Nsec query response proof)))) same tt
found_for (Err (error.Dns (dns_error.ResponseCode code))) o h = failed _ (error.Dns (dns_error.ResponseCode code)) o h
found_for (Err (error.Dns (dns_error.NoRecordsFound missing))) o h = failed _
    (error.Dns (dns_error.NoRecordsFound missing)) o h
found_for (Err (error.Dns dns_error.DnssecBogus)) o h = failed _ (error.Dns dns_error.DnssecBogus) o h
found_for (Err error.Busy) o h = failed _ error.Busy o h
found_for (Err (error.Message notice)) o h = failed _ (error.Message notice) o h
found_for (Err (error.Msg text)) o h = failed _ (error.Msg text) o h
found_for (Err error.NoConnections) o h = failed _ error.NoConnections o h
found_for (Err (error.Proto why)) o h = failed _ (error.Proto why) o h
found_for (Err (error.Io kind)) o h = failed _ (error.Io kind) o h
found_for (Err error.Timeout) o h = failed _ error.Timeout o h
found_for (Err error.QueryCaseMismatch) o h = failed _ error.QueryCaseMismatch o h
found_for (Err (error.ForeignClassRecord owner class rtype)) o h = failed _
    (error.ForeignClassRecord owner class rtype) o h
found_for (Err error.Truncated) o h = failed _ error.Truncated o h

-- what follows where a reply has AD
proved_by : {P Q : Type 0} (reply : Option (List ℕ)) → IfSome reply (λ bytes. has_ad bytes ≡ true → P) → (P → Q)
    → IfSome reply (λ bytes. has_ad bytes ≡ true → Q)
proved_by None h f = tt
proved_by (Some bytes) h f = λ ad. f (h ad)

module _ {H V C : Type 0} (meanings : handle.Ghosts H) (tests : verifier.Ghosts V) (caches : cache.Ghosts C) where
  -- one lookup that came to an answer which is authentic
  looked_up : (old new : DnssecDnsHandle H V C) (q : Question) (depth now : ℕ) (response : ResponseValue)
      → LooksUp meanings tests caches old new q depth now (Ok response) → is_authentic q response ≡ true
      → IsProved (judge (tests.answers (verifier_of old)) (anchors_of old) now) q response
  looked_up old new q depth now response looked secure =
      authentic_proved (judge (tests.answers (verifier_of old)) (anchors_of old) now) now
      (told_by looked.sound.message) q response
      looked.sound.sound looked.denies secure

  said : (q : Option Question) (old new : DnssecDnsHandle H V C) (depth now : ℕ) (o : Outcome) (query : Question)
      (response : ResponseValue)
      → q ≡ Some query → o ≡ outcome.Answered response → LeadsTo meanings tests caches q old new depth now o
      → is_authentic query response ≡ true
      → IsProved (judge (tests.answers (verifier_of old)) (anchors_of old) now) query response
  said None old new depth now o query response is answered led secure = absurd cc
  said (Some q) old new depth now o query response is answered led secure =
      let same : q ≡ query = cc in
      let found : led.found ≡ Ok response = subst (IsFoundFor led.found) answered (found_for led.found o led.came) in
      let Looked = λ (f : Result ResponseValue NetError). LooksUp meanings tests caches old new q depth now f in
      let looked = subst Looked found led.looked in
      subst (λ (x : Question). IsProved (judge (tests.answers (verifier_of old)) (anchors_of old) now) x response) same
      (looked_up old new q depth now response looked
      (subst (λ (x : Question). is_authentic x response ≡ true) (sym same) secure))

  -- what a reply says is authentic is proved
  reply_proved : (old new : DnssecDnsHandle H V C) (request : List ℕ) (protocol : Protocol) (depth now : ℕ)
      (o : Outcome)
      → LeadsTo meanings tests caches (query_of (received_of request)) old new depth now o
      → IfSome (forwarded request protocol o) (λ bytes. has_ad bytes ≡ true
      → AnswersProved (judge (tests.answers (verifier_of old)) (anchors_of old) now) request o)
  reply_proved old new request protocol depth now o led =
      proved_by (forwarded request protocol o) (forwarded_authentic request protocol o)
      (λ s. let asked : query_of (received_of request) ≡ Some s.query = ap query_of s.came ∙ ap query_by s.asked in
      record {
        query = s.query;
        response = s.response;
        asked = asked;
        answered = s.answered;
        proved = said (query_of (received_of request)) old new depth now o s.query s.response asked s.answered
            led s.secure;
      })

  -- the same of what an exchange keeps
  pub kept_proved : (old new : DnssecDnsHandle H V C) (request : List ℕ) (protocol : Protocol) (depth now : ℕ)
      (o : Outcome) (kept : List ℕ) (reply : Option (List ℕ)) → kept ≡ request
      → reply ≡ forwarded request protocol o
      → LeadsTo meanings tests caches (query_of (received_of request)) old new depth now o
      → IfSome reply (λ bytes. has_ad bytes ≡ true
      → AnswersProved (judge (tests.answers (verifier_of old)) (anchors_of old) now) kept o)
  kept_proved old new request protocol depth now o kept reply same is led =
      rw (same, is) (reply_proved old new request protocol depth now o led)
