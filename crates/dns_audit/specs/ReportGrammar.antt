-- The grammar of a report that follows a session: lines of these forms in this order, and nothing after the last. Each ends with LF, and
-- lines are counted from the first of the whole input.
use Rattle.std.specs.Prelude.{ℕ, zero, suc, Bool, List, [], ◌∷◌, length, Option, None, Some, Result, Ok}
use Rattle.dns_model.specs.declared.section.Section.TheVariants.{Answer, Authority, Additional}
use Rattle.dns_model.specs.ResultSteps.{◌>>=◌}
use Rattle.dns_model.specs.SoundAnswers.{ChainValue}
use Rattle.dns_model.specs.Told.{Told}
use Rattle.dns_model.specs.Trails.{HeardValue, AskedValue}
use Rattle.dns_model.specs.Trails as trails
use Rattle.dns_session.specs.LinePlaces.{Place, start_of, read_next, one, optional, many}
use Rattle.dns_session.specs.Lines.{end_line}
use Rattle.dns_session.specs.Grammar.{if_ended, session_front}
use Rattle.dns_session.specs.SessionValue.{SessionValue}
use Rattle.dns_audit.specs.ReportValue.{ReportValue, ChainHead, GotValue, Code, NoReply}
use Rattle.dns_audit.specs.ReportLines.{report_header, code_line, denial_line, record_line, chain_line, link_line, trail_line, step_line, got_line, told_line, set_line, ending_line}

-- a part that stands so many times, and the place after the last
unfoldable pub times : {X : Type 0} → (Place → Result (X × Place) ℕ) → ℕ → Place → Result (List X × Place) ℕ
times part zero at = Ok ([], at)
times part (suc n) at = do
  first ← part at
  others ← times part n first.1
  Ok (first.0 ∷ others.0, others.1)

-- ---- chains: a line with their number before the links

-- a chain after the line before its links, and the place after it
unfoldable pub chain_after : ChainHead → Place → Result (ChainValue × Place) ℕ
chain_after head at = times (one link_line) head.count at >>= λ links. Ok (record { section = head.section; links = links.0 }, links.1)

-- the chain of a line that was read, and those after it; where no such line was, the place is left
abbrev pub chain_and_more : Option (ChainHead × Place) → Place → (Place → Result (List ChainValue × Place) ℕ)
    → Result (List ChainValue × Place) ℕ
chain_and_more None at more = Ok ([], at)
chain_and_more (Some head) at more = do
  chain ← chain_after head.0 head.1
  others ← more chain.1
  Ok (chain.0 ∷ others.0, others.1)

-- at most so many chains
unfoldable pub chains_in : ℕ → Place → Result (List ChainValue × Place) ℕ
chains_in zero at = Ok ([], at)
chains_in (suc n) at = chain_and_more (read_next chain_line at) at (chains_in n)

-- any number of chains, as many as there are, and the place after them; each takes a line
abbrev pub chains_at : Place → Result (List ChainValue × Place) ℕ
chains_at at = chains_in (length at.pieces) at

-- ---- a trail: a line with the number of its steps, and the steps

-- the records that a reply with this code told, with whether it said that there are none, and the place after them
abbrev pub told_after : ℕ → Bool → Place → (Told × Bool) × Place
told_after code empty at =
    let answers = many (told_line Answer) at in
    let authorities = many (told_line Authority) answers.1 in
    let additionals = many (told_line Additional) authorities.1 in
    ((record { code = code; answers = answers.0; authorities = authorities.0; additionals = additionals.0 }, empty), additionals.1)

-- what was heard of a reply, and the place after it: its records, or none after a fault
abbrev pub told_at : GotValue → Place → HeardValue × Place
told_at NoReply at = (trails.Fault, at)
told_at (Code code empty) at =
    let told = told_after code empty at in
    (trails.Records told.0.0 told.0.1, told.1)

-- a step, and the place after it
unfoldable pub step_at : Place → Result (AskedValue × Place) ℕ
step_at start = do
  head ← one step_line start
  got ← one got_line head.1
  let told = told_at got.0 got.1
  let sets = many set_line told.1
  last ← one ending_line sets.1
  Ok (
    record {
      depth = head.0.depth;
      judged = head.0.judged;
      query = head.0.query;
      reply = told.0;
      sets = sets.0;
      ending = last.0.ending;
      excuse = last.0.excuse;
    },
    last.1,
  )

-- the steps of a trail, where a line said their number
abbrev pub steps_at : Option ℕ → Place → Result (Option (List AskedValue) × Place) ℕ
steps_at None at = Ok (None, at)
steps_at (Some count) at = times step_at count at >>= λ steps. Ok (Some steps.0, steps.1)

-- a trail, where there is one, and the place after it
abbrev pub trail_at : Place → Result (Option (List AskedValue) × Place) ℕ
trail_at start = let count = optional trail_line start in steps_at count.0 count.1

-- ---- the whole

-- the last line, with which the text ends
abbrev pub end_at : Place → Result (Unit {0}) ℕ
end_at at = one end_line at >>= λ last. if_ended last.1 tt

-- the report from a place on, with which the text ends, or the number of the first bad line
unfoldable pub report_at : Place → Result ReportValue ℕ
report_at start = do
  head ← one report_header start
  code ← one code_line head.1
  denial ← one denial_line code.1
  let answers = many (record_line Answer) denial.1
  let authorities = many (record_line Authority) answers.1
  let additionals = many (record_line Additional) authorities.1
  chains ← chains_at additionals.1
  trail ← trail_at chains.1
  last ← end_at trail.1
  Ok (record {
    code = code.0;
    denial = denial.0;
    answers = answers.0;
    authorities = authorities.0;
    additionals = additionals.0;
    chains = chains.0;
    trail = trail.0;
  })

-- a report alone
abbrev pub report_of : List ℕ → Result ReportValue ℕ
report_of bytes = report_at (start_of bytes)

-- what an audit reads: a session, and then a report; or the number of the first bad line, counted from the session's first
unfoldable pub audit_of : List ℕ → Result (SessionValue × ReportValue) ℕ
audit_of bytes = do
  session ← session_front (start_of bytes)
  report ← report_at session.1
  Ok (session.0, report)
