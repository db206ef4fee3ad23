-- A lookup that a session asks for over a server (RFC 4035, 4.3 and 5): how the server is asked, by what the answer is judged, what it is,
-- and how a run ends that makes the lookup. The session's replies aren't used, and its moment isn't: the clock's stands in its place.
use Rattle.std.specs.Prelude.{ℕ, ◌≡◌, ◌≢◌, ◌<◌, IsTrue, IfOk, Bool, true, false, List, [], length, unwrap_or, Option, Result, Ok, Err}
use Rattle.dns_model.specs.Keys.{anchored}
use Rattle.dns_model.specs.Records.{MessageValue}
use Rattle.dns_model.specs.SoundAnswers.{told_by, Sound, ResponseValue}
use Rattle.dns_handle.specs.Errors as seen
use Rattle.dns_handle.specs.Errors.{ErrorValue, Reply}
use Rattle.dns_handle.specs.declared.protocol.Protocol.{Protocol}
use Rattle.dns_multiplexer.specs.Draws.{seeded_draws}
use Rattle.dns_multiplexer.specs.declared.draws.RandDraws.{RandDraws}
use Rattle.dns_udp.specs.Met.{dialer_view}
use Rattle.dns_asking.specs.Causes.{AnswerCause}
use Rattle.dns_asking.specs.Servers.{Network, AsksServer}
use Rattle.dns_asking.specs.declared.address.ServerAddress.{ServerAddress}
use Rattle.dns_asking.specs.declared.inquiry.Inquiry.{Inquiry}
use Rattle.dns_report.specs.declared.parts.Parts.TheVariants.{Answer}
use Rattle.dns_report.specs.View.{View, view_of, fitting_view}
use Rattle.dns_report.specs.Report.{report_text, view_text}
use Rattle.dns_report.specs.Faults.{fault_text}
use Rattle.dns_session.specs.SessionValue.{SessionValue}
use Rattle.dns_session.specs.Grammar.{session_of}
use Rattle.dns_session.specs.Stops.{NamesLine}
use Rattle.dns_io.specs.Reading.{input_limit, too_long_text, OfInput}
use Rattle.dns_io.specs.Leaving.{Leaves, WrotePrefix}
use Rattle.dns_session_lookup.specs.Answering.{session_depth, session_limits}
use Rattle.dns_run.specs.Explaining.{IsExplained}
use Rattle.dns_session_lookup.specs.Soundness.{session_judge}
use Rattle.dns_session_lookup.specs.Verifying.{session_answers, verifier_answers}
use Rattle.dns_session_lookup.specs.contracts.verification.SessionVerifierVerifier.TheImpl as tests
use Rattle.dns_session_lookup.specs.declared.verification.Verification.{Verification}
use Rattle.dns_session_lookup.specs.declared.verification.SessionVerifier.{SessionVerifier}

-- ---- how a server is asked

-- how a server is asked: over which network, how signatures are verified, whether the answer is explained, by what messages are
-- carried, at which address, and from which seed ids and ports are drawn; none stands for the moment
pub record ServerCall (D L : Type 0) : Type 1 where
  pub network : Network D L RandDraws
  pub how : Verification
  pub explains : Bool
  pub protocol : Protocol
  pub server : ServerAddress
  pub seed : Option ℕ

abbrev pub server_call : {D L : Type 0} → Network D L RandDraws → Verification → Bool → Protocol → ServerAddress → Option ℕ → ServerCall D L
server_call network how explains protocol server seed = record {
  network = network;
  how = how;
  explains = explains;
  protocol = protocol;
  server = server;
  seed = seed;
}

-- ---- what is asked

-- the session at another moment
abbrev pub at_moment : ℕ → SessionValue → SessionValue
at_moment now s = record s { moment = now }

-- what a session asks at a moment: its query, within its depth, by its keys and its verifier
pub record IsInquiryOf (how : Verification) (s : SessionValue) (now : ℕ) (inquiry : Inquiry SessionVerifier) : Type 0 where
  pub query : inquiry.query ≡ s.query
  pub depth : inquiry.depth ≡ session_depth s
  pub anchors : anchored inquiry.anchors ≡ anchored s.anchors
  pub verifier : verifier_answers inquiry.verifier ≡ session_answers how s
  pub moment : inquiry.moment ≡ now

-- the server was asked for it, with ids and ports that were drawn from the seed or from the moment, between two states of a dialer; and
-- the answer has its cause in what the dialer met
pub record AsksSession {D L : Type 0} (call : ServerCall D L) (s : SessionValue) (now : ℕ) (old new : D) (reply : Reply) : Type 0 where
  pub inquiry : Inquiry SessionVerifier
  pub is : IsInquiryOf call.how s now inquiry
  pub asks : AsksServer call.network tests.ghosts call.server inquiry (seeded_draws (unwrap_or call.seed now)) old new reply call.protocol
  pub caused : AnswerCause call.protocol (dialer_view call.network.counts call.network.came old)
      (dialer_view call.network.counts call.network.came new) reply

-- ---- what is written of the answer

-- the answer is sound for the records of a message, by the session's keys and its verifier, at a moment
pub record IsSoundAt (how : Verification) (s : SessionValue) (now : ℕ) (answer : ResponseValue) : Type 0 where
  pub message : MessageValue
  pub sound : Sound (session_judge how (at_moment now s)) now (told_by message) answer

-- the text is the report of one answer, which that server gave a validator, and the answer is sound; what is shown of it fits, and no
-- other fitting view has this text
pub record IsServerReport {D L : Type 0} (call : ServerCall D L) (s : SessionValue) (now : ℕ) (old new : D) (text : List ℕ) : Type 0 where
  pub answer : ResponseValue
  pub asks : AsksSession call s now old new (Ok answer)
  pub sound : IsSoundAt call.how s now answer
  pub spelled : text ≡ report_text Answer answer
  pub fits : IsTrue (fitting_view (view_of Answer answer))
  pub tells : (other : View) → IsTrue (fitting_view other) → view_text other ≡ text → other ≡ view_of Answer answer

-- the text is the line of one error, which that server gave a validator and which isn't that memory ran out
pub record IsServerFault {D L : Type 0} (call : ServerCall D L) (s : SessionValue) (now : ℕ) (old new : D) (text : List ℕ) : Type 0 where
  pub error : ErrorValue
  pub asks : AsksSession call s now old new (Err error)
  pub own : error ≢ seen.NoMemory
  pub spelled : text ≡ fault_text error

-- a status and a text, and what became of the dialer
pub data AnswersOver {D L : Type 0} (call : ServerCall D L) (s : SessionValue) (now : ℕ) (old new : D) (status : ℕ)
    (text : List ℕ) : Type 0 where
  Reported : status ≡ 0 → IsServerReport call s now old new text → AnswersOver call s now old new status text
  Failed : status ≡ 1 → IsServerFault call s now old new text → AnswersOver call s now old new status text

-- the text explains the answer that that server gave a validator, which is sound, or the error
pub record ExplainedOver {D L : Type 0} (call : ServerCall D L) (s : SessionValue) (now : ℕ) (old new : D) (status : ℕ)
    (text : List ℕ) : Type 0 where
  pub reply : Reply
  pub asks : AsksSession call s now old new reply
  pub sound : IfOk reply (IsSoundAt call.how s now)
  pub is : IsExplained (session_judge call.how (at_moment now s)) (session_limits s) reply status text

-- a status and a text, as the answer is explained or not
abbrev pub TellsOver : {D L : Type 0} → Bool → ServerCall D L → SessionValue → ℕ → D → D → ℕ → List ℕ → Type 0
TellsOver true call s now old new status text = ExplainedOver call s now old new status text
TellsOver false call s now old new status text = AnswersOver call s now old new status text

-- what an input comes to: a session at some moment, that of the clock; and where it is no session, nothing is asked
abbrev pub ServerEnds : {D L : Type 0} → ServerCall D L → Result SessionValue ℕ → D → D → ℕ → List ℕ → Type 0
ServerEnds call (Ok s) old new status text = (now : ℕ) × TellsOver call.explains call s now old new status text
ServerEnds call (Err number) old new status text = NamesLine number status text × (new ≡ old)

-- ---- how a run ends

-- what may be written of bytes: the text of a status to which they come; what is said of an input that is too long; or nothing
pub data ServerTells {D L : Type 0} (call : ServerCall D L) (old new : D) (bytes text : List ℕ) : Type 0 where
  Ended : (status : ℕ) → ServerEnds call (session_of bytes) old new status text → ServerTells call old new bytes text
  TooLong : input_limit < length bytes → text ≡ too_long_text → ServerTells call old new bytes text
  Nothing : text ≡ [] → ServerTells call old new bytes text

-- a status below 4 is one to which the told bytes come, and its text was written; and whatever the status, a prefix of a text that
-- they may come to was written
pub record EndsAsk {D L : Type 0} (call : ServerCall D L) (old new : D) (status : ℕ) (told before now : Option (List ℕ)) : Type 0 where
  pub ends : status < 4 → Leaves (λ bytes text. ServerEnds call (session_of bytes) old new status text) told before now
  pub prefix : OfInput told (λ bytes. WrotePrefix before now (ServerTells call old new bytes))

-- ---- for private functions of this crate only

-- the status and the text of an answer, unless memory ran out
abbrev pub IsReplyText : Reply → ℕ → List ℕ → Type 0
IsReplyText (Ok answer) status text =
    (status ≡ 0) × (text ≡ report_text Answer answer) × IsTrue (fitting_view (view_of Answer answer))
    × ((other : View) → IsTrue (fitting_view other) → view_text other ≡ text → other ≡ view_of Answer answer)
IsReplyText (Err error) status text = (status ≡ 1) × (error ≢ seen.NoMemory) × (text ≡ fault_text error)
