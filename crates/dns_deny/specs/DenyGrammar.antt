-- The grammar of a session with questions behind it: the lines of a session, a line for each question, and nothing after the last. Each
-- line ends with LF.
use Rattle.std.specs.Prelude.{ℕ, List, Result}
use Rattle.dns_model.specs.ResultSteps.{◌>>=◌}
use Rattle.dns_model.specs.Records.{Question}
use Rattle.dns_session.specs.SessionValue.{SessionValue}
use Rattle.dns_session.specs.LinePlaces.{Place, start_of, one, many}
use Rattle.dns_session.specs.Lines.{end_line}
use Rattle.dns_session.specs.Grammar.{if_ended, session_front}
use Rattle.dns_deny.specs.ThenLines.{then_line}

-- a session, and what is asked behind it
pub record DenyValue : Type 0 where
  pub session : SessionValue
  pub questions : List Question

-- what a text says from a place on, with which it ends; or the number of the first bad line
unfoldable pub deny_at : Place → Result DenyValue ℕ
deny_at start = do
  front ← session_front start
  let questions = many then_line front.1
  last ← one end_line questions.1
  if_ended last.1 (record { session = front.0; questions = questions.0 })

-- what bytes say, or the number of the first line, from 1, that can't stand at its place
abbrev pub deny_of : List ℕ → Result DenyValue ℕ
deny_of bytes = deny_at (start_of bytes)
