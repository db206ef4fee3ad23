-- How a run ends that asks a server, out of what the server was asked and answered.
use Rattle.std.proofs.Common.{true, false, ◌≡◌, ◌<◌, ◌≤◌, ◌∙◌, ℕ, List, [], Option, None, Some, IfSome, IfOk, IsOk}
use Rattle.std.proofs.Common.{MatchResult, Result, Ok, Err, length, refl, sym, ap, subst, arith}
use Rattle.std.proofs.lemmas.Result.{IfOk-weaker}
use Rattle.std.specs.Prelude.{unwrap_or}
use Rattle.std.specs.Option.{option_map}
use Rattle.std.specs.Io.KnownBytes.{Appends}
use Rattle.dns_model.specs.Chains.{judge}
use Rattle.dns_model.specs.SoundAnswers.{told_by, Sound, ResponseValue}
use Rattle.dns_handle.specs.Errors.{Reply}
use Rattle.dns_handle.specs.declared.handle.DnsHandle as handle
use Rattle.dns_handle.specs.declared.protocol.Protocol.{Protocol}
use Rattle.dns_lookup.specs.LookupAnswers.{IsSoundAnswer}
use Rattle.dns_udp.specs.Met.{dialer_view}
use Rattle.dns_asking.specs.Causes.{AnswerCause}
use Rattle.dns_asking.specs.Lookups.{call_over}
use Rattle.dns_lookup.specs.Calls.{CacheUse}
use Rattle.dns_asking.specs.Servers.{AsksServer, ByDatagrams, OverConnection, Unreached, Reached}
use Rattle.dns_asking.specs.declared.inquiry.Inquiry.{Inquiry}
use Rattle.dns_io.specs.Reading.{input_limit, too_long_text}
use Rattle.dns_io.specs.Writing.{TakesPrefix}
use Rattle.dns_io.specs.Leaving.{Wrote, WrotePrefix}
use Rattle.dns_io.proofs.Leaving.{of_read, of_any, of_long, nothing_taken}
use Rattle.dns_session.specs.SessionValue.{SessionValue}
use Rattle.dns_session.specs.Grammar.{session_of}
use Rattle.dns_run.specs.Asks.{ServerCall, AnswersOver, Reported, Failed, EndsAsk, ExplainedOver, TellsOver}
use Rattle.dns_run.specs.Asks.{AsksSession, IsInquiryOf, IsReplyText, IsSoundAt, ServerEnds, ServerTells, Ended}
use Rattle.dns_run.specs.Asks.{TooLong, Nothing, at_moment}
use Rattle.dns_run.specs.Explaining.{IsExplained, judge_by}
use Rattle.dns_run.specs.ExplainingOver.{IsJudgingOf, IsToldText, JudgesSession}
use Rattle.dns_run.specs.declared.judging.Judging.{Judging}
use Rattle.dns_run.proofs.ExplainLemmas.{at_own_moment, judging_session}
use Rattle.dns_session_lookup.specs.Soundness.{session_judge}
use Rattle.dns_session_lookup.specs.Verifying.{verifier_answers}
use Rattle.dns_session_lookup.specs.contracts.verification.SessionVerifierVerifier.TheImpl as tests
use Rattle.dns_session_lookup.specs.declared.verification.Verification.{Verification}
use Rattle.dns_session_lookup.specs.declared.verification.SessionVerifier.{SessionVerifier}
use Rattle.dns_multiplexer.specs.Draws.{seeded_draws}
use Rattle.dns_multiplexer.specs.declared.draws.RandDraws.{RandDraws}
use Rattle.dns_session_lookup.proofs.JudgeLemmas.{judge_plain}

-- ---- the answer

-- what an inquiry is judged by is the session's judge at its moment
judged_at : (how : Verification) (s : SessionValue) (now : ℕ) (inquiry : Inquiry SessionVerifier)
    → IsInquiryOf how s now inquiry
    → judge (verifier_answers inquiry.verifier) inquiry.anchors inquiry.moment ≡ session_judge how (at_moment now s)
judged_at how s now inquiry is =
    ap (λ m. judge (verifier_answers inquiry.verifier) inquiry.anchors m) is.moment
    ∙ judge_plain how (at_moment now s) (verifier_answers inquiry.verifier) inquiry.anchors is.verifier is.anchors

module _ {H : Type 0} (meanings : handle.Ghosts H) (how : Verification) (s : SessionValue) (now : ℕ) where
  sound_by : (inquiry : Inquiry SessionVerifier) (kept : CacheUse) (old new : H) (a : ResponseValue)
      → IsInquiryOf how s now inquiry
      → IsSoundAnswer meanings (call_over tests.ghosts inquiry kept old new) a → IsSoundAt how s now a
  sound_by inquiry kept old new a is sound = record {
    message = sound.message;
    sound =
        subst (λ m. Sound (session_judge how (at_moment now s)) m (told_by sound.message) a) is.moment
        (subst (λ j. Sound j inquiry.moment (told_by sound.message) a) (judged_at how s now inquiry is) sound.sound);
  }

-- where ids and ports are drawn from
abbrev drawn_at : Option ℕ → ℕ → RandDraws
drawn_at seed now = seeded_draws (unwrap_or seed now)

module _ {D L : Type 0} (call : ServerCall D L) (s : SessionValue) (now : ℕ) (old new : D) where
  sound_at : (protocol : Protocol) (inquiry : Inquiry SessionVerifier) (draws : RandDraws) (a : ResponseValue)
      → IsInquiryOf call.how s now inquiry
      → AsksServer call.network tests.ghosts call.server inquiry draws old new (Ok a) protocol
      → IsSoundAt call.how s now a
  sound_at protocol inquiry draws a is (ByDatagrams at of asked) =
      sound_by call.network.by_datagrams call.how s now inquiry asked.looked.kept asked.first asked.last a is
      asked.looked.is.sound
  sound_at protocol inquiry draws a is (OverConnection at of (Unreached refused)) =
      absurd (let no = refused.refused in cc)
  sound_at protocol inquiry draws a is (OverConnection at of (Reached asked)) =
      sound_by call.network.over_connection call.how s now inquiry asked.looked.kept asked.first asked.last a is
      asked.looked.is.sound

  -- what was asked
  asked_session : (inquiry : Inquiry SessionVerifier) (draws : RandDraws) (reply : Reply)
      → IsInquiryOf call.how s now inquiry → draws ≡ drawn_at call.seed inquiry.moment
      → AsksServer call.network tests.ghosts call.server inquiry draws old new reply call.protocol
      → AnswerCause call.protocol (dialer_view call.network.counts call.network.came old)
      (dialer_view call.network.counts call.network.came new) reply
      → AsksSession call s now old new reply
  asked_session inquiry draws reply is drawn asks caused = record {
    inquiry = inquiry;
    is = is;
    asks =
        subst (λ d. AsksServer call.network tests.ghosts call.server inquiry d old new reply call.protocol)
        (drawn ∙ ap (drawn_at call.seed) is.moment) asks;
    caused = caused;
  }

  -- a status and a text of what a server answered
  pub answered_over : (inquiry : Inquiry SessionVerifier) (draws : RandDraws) (reply : Reply) (status : ℕ)
      (text : List ℕ) → IsInquiryOf call.how s now inquiry → draws ≡ drawn_at call.seed inquiry.moment
      → AsksServer call.network tests.ghosts call.server inquiry draws old new reply call.protocol
      → AnswerCause call.protocol (dialer_view call.network.counts call.network.came old)
      (dialer_view call.network.counts call.network.came new) reply
      → IsReplyText reply status text → AnswersOver call s now old new status text
  answered_over inquiry draws (Ok a) status text is drawn asks caused (done, spelled, fits, tells) =
      Reported done (record {
        answer = a;
        asks = asked_session inquiry draws (Ok a) is drawn asks caused;
        sound = sound_at call.protocol inquiry draws a is asks;
        spelled = spelled;
        fits = fits;
        tells = tells;
      })
  answered_over inquiry draws (Err e) status text is drawn asks caused (done, own, spelled) =
      Failed done (record {
        error = e;
        asks = asked_session inquiry draws (Err e) is drawn asks caused;
        own = own;
        spelled = spelled;
      })

  -- ---- explained

  sound_reply : (inquiry : Inquiry SessionVerifier) (draws : RandDraws) (reply : Reply)
      → IsInquiryOf call.how s now inquiry
      → AsksServer call.network tests.ghosts call.server inquiry draws old new reply call.protocol
      → IfOk reply (IsSoundAt call.how s now)
  sound_reply inquiry draws (Ok a) is asks = sound_at call.protocol inquiry draws a is asks
  sound_reply inquiry draws (Err e) is asks = tt

  -- the same of an answer that is explained
  explained_over : (inquiry : Inquiry SessionVerifier) (draws : RandDraws) (reply : Reply) (j : Judging) (status : ℕ)
      (text : List ℕ) → IsInquiryOf call.how s now inquiry → JudgesSession call.how s now j
      → draws ≡ drawn_at call.seed inquiry.moment
      → AsksServer call.network tests.ghosts call.server inquiry draws old new reply call.protocol
      → AnswerCause call.protocol (dialer_view call.network.counts call.network.came old)
      (dialer_view call.network.counts call.network.came new) reply
      → IsExplained (judge_by j) j.limits reply status text → ExplainedOver call s now old new status text
  explained_over inquiry draws reply j status text is judges drawn asks caused explained = record {
    reply = reply;
    asks = asked_session inquiry draws reply is drawn asks caused;
    sound = sound_reply inquiry draws reply is asks;
    is =
        subst (λ l. IsExplained (session_judge call.how (at_moment now s)) l reply status text) judges.limits
        (subst (λ by. IsExplained by j.limits reply status text) (judging_session call.how (at_moment now s) j
        (at_own_moment call.how s now j judges)) explained);
  }

  -- a status and a text of what a server answered, which is explained or not
  pub told_over : (inquiry : Inquiry SessionVerifier) (draws : RandDraws) (reply : Reply) (judging : Option Judging)
      (status : ℕ) (text : List ℕ) → IsInquiryOf call.how s now inquiry
      → IsJudgingOf call.explains call.how s now judging → draws ≡ drawn_at call.seed inquiry.moment
      → AsksServer call.network tests.ghosts call.server inquiry draws old new reply call.protocol
      → AnswerCause call.protocol (dialer_view call.network.counts call.network.came old)
      (dialer_view call.network.counts call.network.came new) reply
      → IsToldText (option_map (λ j. (judge_by j, j.limits)) judging) reply status text
      → TellsOver call.explains call s now old new status text
  told_over inquiry draws reply None status text is plain drawn asks caused told =
      subst (λ b. TellsOver b call s now old new status text) (sym plain)
      (answered_over inquiry draws reply status text is drawn asks caused told)
  told_over inquiry draws reply (Some j) status text is judges drawn asks caused told =
      subst (λ b. TellsOver b call s now old new status text) (sym judges.0)
      (explained_over inquiry draws reply j status text is judges.1 drawn asks caused told)

  -- and where there is one
  pub all_told : {X Z : Type 0} (inquiry : Inquiry SessionVerifier) (draws : RandDraws) (reply : Reply)
      (judging : Option Judging) (status : X → ℕ) (text : X → List ℕ) (ending : Result X Z)
      → IsInquiryOf call.how s now inquiry → IsJudgingOf call.explains call.how s now judging
      → draws ≡ drawn_at call.seed inquiry.moment
      → AsksServer call.network tests.ghosts call.server inquiry draws old new reply call.protocol
      → AnswerCause call.protocol (dialer_view call.network.counts call.network.came old)
      (dialer_view call.network.counts call.network.came new) reply
      → IfOk ending
      (λ x. IsToldText (option_map (λ j. (judge_by j, j.limits)) judging) reply (status x) (text x))
      → IfOk ending (λ x. TellsOver call.explains call s now old new (status x) (text x))
  all_told inquiry draws reply judging status text ending is judges drawn asks caused texts =
      IfOk-weaker ending _ _
      (λ x. told_over inquiry draws reply judging (status x) (text x) is judges drawn asks caused) texts

-- ---- written

module _ {D L : Type 0} (call : ServerCall D L) (old new : D) (bytes : List ℕ) where
  pub asked_wrote : (text : List ℕ) (expected status : ℕ) (before now : Option (List ℕ))
      → ServerEnds call (session_of bytes) old new expected text → status ≡ expected
      → Appends before now text
      → Wrote before now (ServerEnds call (session_of bytes) old new status)
  asked_wrote text expected status before now ends same written = record {
    text = text;
    fact = subst (λ n. ServerEnds call (session_of bytes) old new n text) (sym same) ends;
    written = written;
  }

  pub asked_prefix : (text : List ℕ) (status : ℕ) (before now : Option (List ℕ))
      → ServerEnds call (session_of bytes) old new status text → TakesPrefix before now text
      → WrotePrefix before now (ServerTells call old new bytes)
  asked_prefix text status before now ends taken = record { text = text; fact = Ended status ends; written = taken }

  pub nothing_asked : (before : Option (List ℕ))
      → WrotePrefix before before (ServerTells call old new bytes)
  nothing_asked before = record { text = []; fact = Nothing refl; written = nothing_taken before [] }

  pub all_wrote : {X Z : Type 0} (expected : X → ℕ) (text : X → List ℕ) (ending : Result X Z) (status : ℕ)
      (before now : Option (List ℕ))
      → IfOk ending (λ x. ServerEnds call (session_of bytes) old new (expected x) (text x))
      → IsOk ending → IfOk ending (λ x. (status ≡ expected x) × Appends before now (text x))
      → Wrote before now (ServerEnds call (session_of bytes) old new status)
  all_wrote expected text (Ok x) status before now ends ok (same, written) =
      asked_wrote (text x) (expected x) status before now ends same written
  all_wrote expected text (Err e) status before now ends ok written = absurd (let no : false ≡ true = ok in cc)

  pub all_prefix : {X Z W : Type 0} (status : X → ℕ) (text : X → List ℕ) (ending : Result X Z)
      (taken : W → Option (List ℕ)) (before now : W)
      → IfOk ending (λ x. ServerEnds call (session_of bytes) old new (status x) (text x))
      → MatchResult ending (λ x. TakesPrefix (taken before) (taken now) (text x)) (λ e. now ≡ before)
      → WrotePrefix (taken before) (taken now) (ServerTells call old new bytes)
  all_prefix status text (Ok x) taken before now ends written =
      asked_prefix (text x) (status x) (taken before) (taken now) ends written
  all_prefix status text (Err e) taken before now ends same =
      subst (λ w. WrotePrefix (taken before) (taken w) (ServerTells call old new bytes)) (sym same)
      (nothing_asked (taken before))

module _ {D L : Type 0} (call : ServerCall D L) (old new : D) where
  pub read_asked : (told : Option (List ℕ)) (bytes : List ℕ) (status : ℕ) (before now : Option (List ℕ))
      → IfSome told (λ left. bytes ≡ left)
      → (status < 4 → Wrote before now (ServerEnds call (session_of bytes) old new status))
      → WrotePrefix before now (ServerTells call old new bytes)
      → EndsAsk call old new status told before now
  read_asked told bytes status before now same wrote prefix = record {
    ends = λ low. of_read (λ bs. Wrote before now (ServerEnds call (session_of bs) old new status))
        told bytes same (wrote low);
    prefix = of_read (λ bs. WrotePrefix before now (ServerTells call old new bs)) told bytes
        same prefix;
  }

  pub long_asked : (told : Option (List ℕ)) (status : ℕ) (before now : Option (List ℕ)) → 5 ≤ status
      → IfSome told (λ left. input_limit < length left) → TakesPrefix before now too_long_text
      → EndsAsk call old new status told before now
  long_asked told status before now least long taken = record {
    ends = λ low. absurd (omega arith);
    prefix = of_long (λ bs. WrotePrefix before now (ServerTells call old new bs)) told long
        (λ bytes more. record { text = too_long_text; fact = TooLong more refl; written = taken });
  }

  pub stopped_asked : (told : Option (List ℕ)) (status : ℕ) (before : Option (List ℕ)) → 4 ≤ status
      → EndsAsk call old new status told before before
  stopped_asked told status before least = record {
    ends = λ low. absurd (omega arith);
    prefix = of_any (λ bs. WrotePrefix before before (ServerTells call old new bs)) told
        (λ bytes. nothing_asked call old new bytes before);
  }
