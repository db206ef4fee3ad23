-- By which keys and signatures the seats of a session judge, and what their ports tell of that: replies that belong to their requests, whose AD
-- is so by the session's keys and the signatures that it lists (RFC 4035, 3.2.3 and 5; RFC 6840, 5.8).
use Rattle.std.specs.Prelude.{ℕ, ◌≡◌, ◌≤◌, ⊤, Bool, true, All, List, ◌++◌, length, Option, None, Some, IfSome}
use Rattle.dns_model.specs.Names.{Labels}
use Rattle.dns_model.specs.Keys.{VerifierAnswers, anchored}
use Rattle.dns_model.specs.Chains.{Judge}
use Rattle.dns_model.specs.Serial.{timely}
use Rattle.dns_handle.specs.declared.protocol.Protocol.{Protocol}
use Rattle.dns_handle.specs.declared.protocol.Protocol.TheVariants.{Udp, Tcp}
use Rattle.dns_forwarded.specs.Laws.{has_ad}
use Rattle.dns_forwarded.specs.Replies.{forwarded}
use Rattle.dns_respond.specs.Authentic.{AnswersProved}
use Rattle.dns_respond.specs.declared.exchanged.Exchanged.{Exchanged}
use Rattle.dns_seats.specs.Serving.{replies_of, requests_of}
use Rattle.dns_listener.specs.Listening.{TrafficValue}
use Rattle.dns_session.specs.SessionValue.{SessionValue}
use Rattle.dns_session_lookup.specs.Verifying.{session_answers}
use Rattle.dns_session_lookup.specs.declared.verification.Verification.TheVariants.{ByList}
use Rattle.dns_forward_run.specs.declared.form.Carried.{Carried}
use Rattle.dns_forward_run.specs.declared.form.Carried.TheVariants.{Datagrams, Connections}

-- what a verifier answers, which keys are trusted, and what carries requests
pub record Judging : Type 0 where
  pub answers : VerifierAnswers
  pub is_anchored : Labels → List ℕ → Bool
  pub protocol : Protocol

-- by what is judged at a moment
abbrev pub judge_at : Judging → ℕ → Judge
judge_at by now = record {
  answers = by.answers;
  is_anchored = by.is_anchored;
  is_timely = λ sig. timely sig now;
}

-- clients over one socket send datagrams, the others have connections
abbrev pub protocol_of : Carried → Protocol
protocol_of Datagrams = Udp
protocol_of (Connections n) = Tcp

-- a session trusts its keys, and accepts the signatures that it lists
abbrev pub judging_by : SessionValue → Carried → Judging
judging_by s carried = record {
  answers = session_answers ByList s;
  is_anchored = anchored s.anchors;
  protocol = protocol_of carried;
}

-- the reply of an exchange belongs to its request and to what was found. AD in it is proved, as it was judged at the exchange's moment
pub record IsReplyBy (by : Judging) (e : Exchanged) : Type 0 where
  pub reply : e.reply ≡ forwarded e.request by.protocol e.outcome
  pub authentic : IfSome e.reply (λ bytes. has_ad bytes ≡ true → AnswersProved (judge_at by e.moment) e.request e.outcome)

-- a port gave the requests of exchanges, and then one at most that wasn't answered, and sent the exchanges' replies
pub record IsAnswered (by : Judging) (port : TrafficValue) : Type 0 where
  pub exchanges : List Exchanged
  pub each : All (IsReplyBy by) exchanges
  pub last : List (List ℕ)
  pub few : length last ≤ 1
  pub received : IfSome port.received (λ requests. requests ≡ requests_of exchanges ++ last)
  pub replied : IfSome port.replied (λ replies. replies ≡ replies_of exchanges)

-- more ports are told, each of which was answered so
pub record AreAnswered (by : Judging) (before now : List TrafficValue) : Type 0 where
  pub ports : List TrafficValue
  pub each : All (IsAnswered by) ports
  pub more : now ≡ before ++ ports

-- the same of a listener that may tell
abbrev pub TellsAnswered : Judging → Option (List TrafficValue) → Option (List TrafficValue) → Type 0
TellsAnswered by before None = ⊤
TellsAnswered by None (Some now) = ⊥
TellsAnswered by (Some before) (Some now) = AreAnswered by before now
