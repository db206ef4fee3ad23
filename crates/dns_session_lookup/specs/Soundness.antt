-- What the answer to a session is worth (RFC 4035, 5): by what it is judged, and for which records.
use Rattle.std.specs.Prelude.{◌≡◌, Some}
use Rattle.dns_model.specs.Records.{MessageValue}
use Rattle.dns_model.specs.Chains.{Judge, judge}
use Rattle.dns_model.specs.SoundAnswers.{told_by, Sound, ResponseValue}
use Rattle.dns_session.specs.SessionValue.{SessionValue}
use Rattle.dns_session_lookup.specs.Replies.{session_message}
use Rattle.dns_session_lookup.specs.Verifying.{session_answers}
use Rattle.dns_session_lookup.specs.declared.verification.Verification.{Verification}

-- by what a session's chains are judged: by what its verifier answers, its anchors, which are trusted, and its moment, at which
-- signatures count
abbrev pub session_judge : Verification → SessionValue → Judge
session_judge how s = judge (session_answers how s) s.anchors s.moment

-- the answer is sound for the records of the message that the session's upstream answers to its query, by the session's trusted
-- keys and its verifier, at its moment
pub record IsSound (how : Verification) (s : SessionValue) (answer : ResponseValue) : Type 0 where
  pub message : MessageValue
  pub told : session_message s ≡ Some message
  pub sound : Sound (session_judge how s) s.moment (told_by message) answer
