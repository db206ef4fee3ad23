-- How a run over a valid session ends, out of what it says of its statuses.
use Rattle.std.proofs.Common.{ℕ, ◌≡◌, ◌∙◌, List, [], Option, None, Some, Ok, refl, sym, ap, subst}
use Rattle.dns_model.specs.SoundAnswers.{Told}
use Rattle.dns_model.specs.Trails.{AskedValue, EndingValue, Answered, Denied}
use Rattle.dns_laws.proofs.CompleteLemmas.{HasReply, valid_reply}
use Rattle.dns_handle.specs.Errors.{ErrorValue}
use Rattle.dns_validation.specs.Received.{received}
use Rattle.dns_lookup.specs.Completing.{first_told}
use Rattle.dns_lookup.proofs.CompletingLemmas.{IsProved, replies_prove, denied_never, answer_secure}
use Rattle.dns_report.specs.declared.parts.Parts.{Parts}
use Rattle.dns_session_lookup.specs.declared.verification.Verification.{Verification}
use Rattle.dns_session.specs.SessionValue.{SessionValue}
use Rattle.dns_session.specs.Grammar.{session_of}
use Rattle.dns_session_lookup.specs.Answering.{session_replies, session_depth, session_limits, IsSessionTrail}
use Rattle.dns_session_lookup.specs.Causes.{FaultCause, NoMessage, OtherClass, NotDenied}
use Rattle.dns_run.specs.Completing.{IsValid, EndsSecurely, Shown, Stopped}
use Rattle.dns_run.specs.Outcomes.{IsTrailReport, IsFault}
use Rattle.dns_session_lookup.specs.Replies.{session_records}
use Rattle.dns_run.specs.Runs.{IfSession}
use Rattle.dns_session_lookup.specs.Soundness.{session_judge}
use Rattle.dns_run.proofs.EndLemmas.{RunEnding, Reported, Failed, Refused, Later, Says, ending, session_same, no_line}
use Rattle.dns_run.proofs.EndLemmas.{no_records, own_class}
use Rattle.dns_session_lookup.proofs.ReplyLemmas.{session_replied}

-- a trail for a valid session proves its query
session_proved : (how : Verification) (s : SessionValue) (trail : List AskedValue) (ending : EndingValue)
    → IsValid how s
    → IsSessionTrail how s trail ending
    → IsProved (session_judge how s) (session_replies s) s.query trail ending
session_proved how s trail ending valid is =
    replies_prove (session_judge how s) (session_replies s)
    (session_limits s) [] s.query trail is.top ending is.derived refl is.last is.query is.ends is.from valid

-- the records that a valid session replies to its query
session_reply_of : (how : Verification) (s : SessionValue) → IsValid how s
    → HasReply (first_told (session_replies s)) s.query
session_reply_of how s valid =
    valid_reply (session_judge how s) (first_told (session_replies s)) (session_depth s) s.query valid

records_of : (s : SessionValue) (told : Told) → first_told (session_replies s) s.query ≡ Some told
    → session_records s ≡ Some told
records_of s told is = sym (ap received (session_replied s)) ∙ is

-- a valid session has no cause for an error
no_fault : (how : Verification) (s : SessionValue) (error : ErrorValue) → IsValid how s → FaultCause how s error → ⊥
no_fault how s error valid (NoMessage h) =
    let reply = session_reply_of how s valid in
    no_records s reply.told (records_of s reply.told reply.heard) h.silent
no_fault how s error valid (OtherClass g) =
    let reply = session_reply_of how s valid in
    own_class s reply.told error (records_of s reply.told reply.heard) reply.own g
no_fault how s error valid (NotDenied response proof given is) =
    denied_never proof ((session_proved how s response.trail (Denied proof) valid given.trail).ends)

-- how a run over a valid session ended
valid_ends : (how : Verification) (shows : Parts) (bytes : List ℕ) (s : SessionValue) (status : ℕ)
    (before now : Option (List ℕ))
    → session_of bytes ≡ Ok s → IsValid how s
    → RunEnding how shows bytes status before now → EndsSecurely how shows s status before now
valid_ends how shows bytes s status before now read valid (Reported is wrote) =
    let r : IsTrailReport how shows s wrote.text =
    subst (λ x. IsTrailReport how shows x wrote.text)
    (session_same bytes s wrote.fact.session read wrote.fact.read) wrote.fact.report in
    let answer = r.report.answer in
    let secure = answer_secure (session_judge how s) (session_replies s) s.query s.moment answer
    (session_proved how s answer.trail (Answered answer.denial) valid r.given.trail) r.given.marks in
    Shown is (record { text = wrote.text; fact = record { is = r; secure = secure }; written = wrote.written })
valid_ends how shows bytes s status before now read valid (Failed is wrote) =
    let f : IsFault how s wrote.text =
    subst (λ x. IsFault how x wrote.text) (session_same bytes s wrote.fact.session read wrote.fact.read) wrote.fact.fault in
    absurd (no_fault how s f.error valid f.cause)
valid_ends how shows bytes s status before now read valid (Refused is wrote) =
    absurd (no_line bytes s wrote.fact.number read wrote.fact.read)
valid_ends how shows bytes s status before now read valid (Later late) = Stopped late

pub ends_securely : (how : Verification) (shows : Parts) (status : ℕ) (told before now : Option (List ℕ))
    → Says how shows status told before now
    → IfSession told (λ s. IsValid how s → EndsSecurely how shows s status before now)
ends_securely how shows status None before now says = tt
ends_securely how shows status (Some bytes) before now says = λ s read valid.
    valid_ends how shows bytes s status before now read valid (ending how shows bytes status before now says)
