-- The grammar of sessions: lines of these forms in this order, and nothing after the last. Each ends with LF.
use Rattle.std.specs.Prelude.{ℕ, List, Result, Ok, Err, if◌then◌else◌}
use Rattle.dns_session.specs.SessionValue.{SessionValue}
use Rattle.dns_model.specs.ResultSteps.{◌>>=◌}
use Rattle.dns_session.specs.LinePlaces.{Place, start_of, one, optional, many, is_ended}
use Rattle.dns_session.specs.Lines.{header_line, moment_line, depth_line, algorithms_line, anchor_line, accept_line, query_line, upstream_line, end_line}

-- the value, where nothing follows; else the next line is bad
abbrev pub if_ended : {X : Type 0} → Place → X → Result X ℕ
if_ended at x = if is_ended at then Ok x else Err at.number

-- the session from a place on, and the place after its last line; or the number of the first bad line
unfoldable pub session_front : Place → Result (SessionValue × Place) ℕ
session_front start = do
  head ← one header_line start
  moment ← one moment_line head.1
  let depth = optional depth_line moment.1
  algorithms ← one algorithms_line depth.1
  let anchors = many anchor_line algorithms.1
  let accepts = many accept_line anchors.1
  query ← one query_line accepts.1
  let replies = many upstream_line query.1
  last ← one end_line replies.1
  Ok (
    record {
      by_turn = head.0;
      moment = moment.0;
      depth = depth.0;
      algorithms = algorithms.0;
      anchors = anchors.0;
      accepts = accepts.0;
      query = query.0;
      replies = replies.0;
    },
    last.1,
  )

-- the session from a place on, with which the text ends
unfoldable pub session_at : Place → Result SessionValue ℕ
session_at start = session_front start >>= λ read. if is_ended read.1 then Ok read.0 else Err read.1.number

-- the session that bytes are, or the number of the first line, from 1, that can't stand at its place
abbrev pub session_of : List ℕ → Result SessionValue ℕ
session_of bytes = session_at (start_of bytes)
