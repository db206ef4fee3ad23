-- For private functions of this crate only: how a server is asked, out of what was given for it, and what such a function promises.
use Rattle.std.specs.Prelude.{ℕ, ◌<◌, List, Option, IfOk}
use Rattle.dns_io.specs.Leaving.{Wrote, WrotePrefix}
use Rattle.dns_asking.specs.Servers.{Network}
use Rattle.dns_asking.specs.declared.inquiry.Inquiry.{Inquiry}
use Rattle.dns_multiplexer.specs.declared.draws.RandDraws.{RandDraws}
use Rattle.dns_session.specs.SessionValue.{SessionValue}
use Rattle.dns_session.specs.Grammar.{session_of}
use Rattle.dns_session_lookup.specs.declared.verification.SessionVerifier.{SessionVerifier}
use Rattle.dns_run.specs.Asks.{EndsAsk, IsInquiryOf, ServerCall, ServerEnds, ServerTells, TellsOver, server_call}
use Rattle.dns_run.specs.ExplainingOver.{IsJudgingOf}
use Rattle.dns_run.specs.declared.judging.Judging.{Judging}
use Rattle.dns_run.specs.declared.server.AskedEnd.{AskedEnd}
use Rattle.dns_run.specs.declared.server.ServerAsk.{ServerAsk}
use Rattle.dns_run.specs.declared.server.ServerEnding.{ServerEnding}

abbrev pub call_by : {D L : Type 0} → Network D L RandDraws → ServerAsk D → ServerCall D L
call_by network given = server_call network given.how given.explains given.protocol given.server given.seed

-- a status and a text, if there are any, are what the server answered to a session at a moment
abbrev pub AnswersSessionAt : {D L : Type 0} → Network D L RandDraws → ServerAsk D → SessionValue → ℕ → ServerEnding D → Type 0
AnswersSessionAt network given s now end =
    IfOk end.ending (λ x. TellsOver given.explains (call_by network given) s now given.dial end.dial x.0 x.1.items)

-- they are so to each session of which this is the inquiry, and by which its sets are judged where the answer is explained
abbrev pub AnswersInquiry : {D L : Type 0} → Network D L RandDraws → ServerAsk D → Option Judging → Inquiry SessionVerifier
    → ServerEnding D → Type 0
AnswersInquiry network given judging inquiry end =
    (s : SessionValue) (now : ℕ) → IsInquiryOf given.how s now inquiry → IsJudgingOf given.explains given.how s now judging
    → AnswersSessionAt network given s now end

-- they are what bytes come to
abbrev pub AnswersBytes : {D L : Type 0} → Network D L RandDraws → ServerAsk D → List ℕ → ServerEnding D → Type 0
AnswersBytes network given bytes end =
    IfOk end.ending (λ x. ServerEnds (call_by network given) (session_of bytes) given.dial end.dial x.0 x.1.items)

-- a status below 4 is one to which bytes come, and its text was written
abbrev pub WritesAnswer : {D L : Type 0} → Network D L RandDraws → ServerAsk D → List ℕ → AskedEnd D → Option (List ℕ) → Option (List ℕ)
    → Type 0
WritesAnswer network given bytes end before now =
    end.status < 4 → Wrote before now (ServerEnds (call_by network given) (session_of bytes) given.dial end.dial end.status)

-- whatever the status, a prefix of a text that bytes may come to was written
abbrev pub WritesPrefixOf : {D L : Type 0} → Network D L RandDraws → ServerAsk D → List ℕ → AskedEnd D → Option (List ℕ) → Option (List ℕ)
    → Type 0
WritesPrefixOf network given bytes end before now =
    WrotePrefix before now (ServerTells (call_by network given) given.dial end.dial bytes)

-- how a run ends, by what the source tells of the input
abbrev pub EndsAsked : {D L : Type 0} → Network D L RandDraws → ServerAsk D → AskedEnd D → Option (List ℕ) → Option (List ℕ)
    → Option (List ℕ) → Type 0
EndsAsked network given end told before now = EndsAsk (call_by network given) given.dial end.dial end.status told before now
