-- The lookup that a session asks for: over its replies, with its keys and signatures, at its moment.
use Rattle.std.specs.Prelude.{ℕ, ◌≡◌, Bool, true, List, map, unwrap_or, Some, []}
use Rattle.dns_model.specs.SoundAnswers.{ResponseValue}
use Rattle.dns_model.specs.Trails.{AskedValue, EndingValue}
use Rattle.dns_rules.specs.Asking.{Limits}
use Rattle.dns_rules.specs.Derivation.{derivation, top_step, in_send_order}
use Rattle.dns_laws.specs.Ground.{HasGrounds}
use Rattle.dns_laws.specs.Denials.{HasDenials}
use Rattle.dns_handle.specs.Handles.{Replies}
use Rattle.dns_handle.specs.Requests.{plain_options}
use Rattle.dns_recorded.specs.Recording.{RecordedValue}
use Rattle.dns_lookup.specs.Sends.{IsFromReplies}
use Rattle.dns_lookup.specs.LookupAnswers.{HasMarksOfTrail}
use Rattle.dns_session.specs.SessionValue.{ReplyValue, SessionValue}
use Rattle.dns_session_lookup.specs.declared.verification.Verification.{Verification}
use Rattle.dns_session_lookup.specs.Replies.{recorded}
use Rattle.dns_session_lookup.specs.Soundness.{session_judge, IsSound}

-- what the session's upstream tells: its replies in order, and whether it serves them by turn
abbrev pub session_replies : SessionValue → Replies
session_replies s = record { list = map recorded s.replies; by_turn = s.by_turn }

-- the upstream that answers as a session says, before it is asked
abbrev pub recorded_by : Bool → List ReplyValue → RecordedValue
recorded_by by_turn replies = record { sends = 0; faults = 0; replies = map recorded replies; by_turn = by_turn }

-- how deep asks may go: as the session says, or as options say that ask for nothing
abbrev pub session_depth : SessionValue → ℕ
session_depth s = unwrap_or s.depth plain_options.max_request_depth

-- and how far validation goes: by 100 and 500 iterations of the hash of NSEC3 records
abbrev pub session_limits : SessionValue → Limits
session_limits s = record { depth = session_depth s; soft = 100; hard = 500 }

-- a trail with this ending: a derivation by the session's keys and its verifier at its moment, whose last
-- step has the session's query, and whose steps heard what the session replies, in the order of the sends
pub record IsSessionTrail (how : Verification) (s : SessionValue) (trail : List AskedValue) (ending : EndingValue) : Type 0 where
  pub derived : derivation (session_judge how s) (session_limits s) [] trail ≡ true
  pub top : AskedValue
  pub last : top_step trail ≡ Some top
  pub query : top.query ≡ s.query
  pub ends : top.ending ≡ ending
  pub from : IsFromReplies (session_replies s) (in_send_order trail)

-- a sound answer with such a trail, whose last step has the answer's marks. In the trail what is Insecure has its ground, and each
-- step that ends with an answer shows what it denies
pub record IsSessionAnswer (how : Verification) (s : SessionValue) (answer : ResponseValue) (ending : EndingValue) : Type 0 where
  pub sound : IsSound how s answer
  pub trail : IsSessionTrail how s answer.trail ending
  pub marks : HasMarksOfTrail s.moment answer
  pub grounds : HasGrounds (session_judge how s).answers answer.trail
  pub denials : HasDenials answer.trail
