-- What stands behind a session is read from its first line on.
use Rattle.std.proofs.Common.{◌≡◌, ℕ, true, false, ◌==◌, List, [], ◌∷◌, ◌++◌, Result, Ok, Err, if◌then◌else◌, refl, sym, ap, ◌∙◌, inl, inr, append_assoc}
use Rattle.std.specs.List.{list_any}
use Rattle.std.proofs.lemmas.Bool.{cases_Bool, or_parts}
use Rattle.dns_session.specs.LinePlaces.{Place, place, pieces, start_of, one, optional, many, is_ended, is_nothing}
use Rattle.dns_session.specs.Lines.{header_line, moment_line, depth_line, algorithms_line, anchor_line, accept_line, query_line, upstream_line, end_line}
use Rattle.dns_session.specs.Grammar.{session_at, session_front, session_of}
use Rattle.dns_session.specs.SessionValue.{SessionValue}
use Rattle.dns_session.specs.Spelled.{lines_text, Unbroken, session_lines}
use Rattle.dns_session.proofs.PieceLemmas.{pieces_listed}
use Rattle.dns_session.proofs.SpelledLaws.{pieces_lines, session_spelled}
use Rattle.dns_report.specs.View.{View, fitting_view}
use Rattle.dns_report.specs.Report.{view_text}
use Rattle.dns_audit.specs.ReportGrammar.{audit_of}
use Rattle.dns_audit.specs.Written.{report_shown, short_view}
use Rattle.dns_audit.proofs.FromSteps.{given, same_ok, nothing_left}
use Rattle.dns_audit.proofs.OnwardPlaces.{onward, going_on, onward_lines, one_on, many_on, optional_on, one_has, many_has}
use Rattle.dns_audit.proofs.WrittenLaw.{report_read}

abbrev front_as : SessionValue → Place → Result (SessionValue × Place) ℕ
front_as s at = Ok (s, at)

abbrev front_read : List (List ℕ) → SessionValue × Place → Result (SessionValue × Place) ℕ
front_read more read = Ok (read.0, going_on more read.1)

-- a session is read in front of more as it is read alone
front_on : (m : List ℕ) (more : List (List ℕ)) (start : Place) (s : SessionValue) (after : Place)
    → session_front start ≡ Ok (s, after)
    → session_front (going_on (m ∷ more) start) ≡ Ok (s, going_on (m ∷ more) after)
unfolding session_front
front_on m more start s after h =
    let head = given (one header_line start) _ (s, after) h in
    let moment = given (one moment_line head.value.1) _ (s, after) head.gives in
    let depth = optional depth_line moment.value.1 in
    let algorithms = given (one algorithms_line depth.1) _ (s, after) moment.gives in
    let anchors = many anchor_line algorithms.value.1 in
    let accepts = many accept_line anchors.1 in
    let query = given (one query_line accepts.1) _ (s, after) algorithms.gives in
    let replies = many upstream_line query.value.1 in
    let last = given (one end_line replies.1) _ (s, after) query.gives in
    let last_has = one_has end_line replies.1.number replies.1.pieces last.value.0 last.value.1 last.was in
    let query_has = one_has query_line accepts.1.number accepts.1.pieces query.value.0 query.value.1 query.was in
    let anchors_has = many_has accept_line anchors.1.number anchors.1.pieces query_has in
    let depth_has =
    one_has algorithms_line depth.1.number depth.1.pieces algorithms.value.0 algorithms.value.1 algorithms.was in
    rw (
      one_on header_line m more start.number start.pieces head.value.0 head.value.1 head.was,
      one_on moment_line m more head.value.1.number head.value.1.pieces moment.value.0 moment.value.1 moment.was,
      optional_on depth_line m more moment.value.1.number moment.value.1.pieces depth_has,
      one_on algorithms_line m more depth.1.number depth.1.pieces algorithms.value.0 algorithms.value.1 algorithms.was,
      many_on anchor_line m more algorithms.value.1.number algorithms.value.1.pieces anchors_has,
      many_on accept_line m more anchors.1.number anchors.1.pieces query_has,
      one_on query_line m more accepts.1.number accepts.1.pieces query.value.0 query.value.1 query.was,
      many_on upstream_line m more query.value.1.number query.value.1.pieces last_has,
      one_on end_line m more replies.1.number replies.1.pieces last.value.0 last.value.1 last.was,
    ) (ap (λ r. front_read (m ∷ more) r) (same_ok _ (s, after) last.gives))

split_line : (line rest : List ℕ) → list_any (λ b. b == 10) line ≡ false
    → pieces 10 (line ++ 10 ∷ rest) ≡ line ∷ pieces 10 rest
split_line [] rest whole = refl
split_line (x ∷ line) rest whole =
    let parts = or_parts (x == 10) (list_any (λ b. b == 10) line) whole in
    let ih : pieces 10 (line ++ 10 ∷ rest) ≡ line ∷ pieces 10 rest = split_line line rest parts.1 in
    rw (parts.0, ih) refl

-- what follows lines begins a line
lines_before : (lines : List (List ℕ)) (text : List ℕ) → Unbroken lines
    → pieces 10 (lines_text lines ++ text) ≡ lines ++ pieces 10 text
lines_before [] text whole = refl
lines_before (line ∷ lines) text whole =
    ap (pieces 10)
    (append_assoc (line ++ 10 ∷ []) (lines_text lines) text
    ∙ append_assoc line (10 ∷ []) (lines_text lines ++ text))
    ∙ split_line line (lines_text lines ++ text) whole.0
    ∙ ap (λ ps. line ∷ ps) (lines_before lines text whole.1)

-- what follows a session stands in place of its last piece, which is empty
pieces_behind : (bytes text : List ℕ) (s : SessionValue) → session_of bytes ≡ Ok s
    → pieces 10 (bytes ++ text) ≡ onward (pieces 10 text) (pieces 10 bytes)
pieces_behind bytes text s read =
    let sp = session_spelled bytes s read in
    let lines = session_lines sp.head sp.moment sp.depth sp.algorithms sp.anchors sp.accepts sp.query sp.replies in
    ap (λ b. pieces 10 (b ++ text)) sp.spelled
    ∙ lines_before lines text sp.unbroken
    ∙ sym (onward_lines (pieces 10 text) lines)
    ∙ ap (onward (pieces 10 text)) (sym (ap (pieces 10) sp.spelled ∙ pieces_lines lines sp.unbroken))

-- a session alone: its front, with which the text ends
record Alone (start : Place) (s : SessionValue) : Type 0 where
  after : Place
  front : session_front start ≡ Ok (s, after)
  ended : after.pieces ≡ [] ∷ []

alone_by : (start after : Place) (t s : SessionValue) → session_front start ≡ Ok (t, after)
    → (if is_ended after then Ok t else Err after.number) ≡ Ok s → Alone start s
alone_by start after t s front h =
    elim (cases_Bool (is_nothing after.pieces)) [
      | inl is ↦
          let same : t ≡ s = same_ok t s (rw is at h) in
          record {
            after = after;
            front = front
                ∙ ap (λ t. front_as t after) same;
            ended = nothing_left after.pieces is;
          }
      | inr isnt ↦ let none : ◌≡◌ {A = Result SessionValue ℕ} (Err after.number) (Ok s) = rw isnt at h in cc
    ]

session_alone : (start : Place) (s : SessionValue) → session_at start ≡ Ok s → Alone start s
unfolding session_at
session_alone start s h =
    let b = given (session_front start) _ s h in alone_by start b.value.1 b.value.0 s b.was b.gives

-- the front of bytes that are a session, with a text behind them
front_behind : (bytes text : List ℕ) (s : SessionValue) → session_of bytes ≡ Ok s
    → (number : ℕ) × (session_front (start_of (bytes ++ text)) ≡ Ok (s, place number (pieces 10 text)))
front_behind bytes text s read =
    let cut = pieces_listed 10 text in
    let alone = session_alone (start_of bytes) s read in
    let left : onward (cut.0 ∷ cut.1) alone.after.pieces ≡ pieces 10 text =
    ap (onward (cut.0 ∷ cut.1)) alone.ended ∙ sym cut.2 in (
      alone.after.number,
      ap (λ ps. session_front (place 1 ps))
          (pieces_behind bytes text s read ∙ ap (λ ps. onward ps (pieces 10 bytes)) cut.2)
          ∙ front_on cut.0 cut.1 (start_of bytes) s alone.after alone.front
          ∙ ap (λ ps. front_as s (place alone.after.number ps)) left,
    )

pub behind_is_read : (bytes : List ℕ) (s : SessionValue) (v : View) → session_of bytes ≡ Ok s → fitting_view v ≡ true
    → short_view v ≡ true → audit_of (bytes ++ view_text v) ≡ Ok (s, report_shown v)
unfolding audit_of
behind_is_read bytes s v read fits short =
    let front = front_behind bytes (view_text v) s read in
    rw (front.1, report_read v fits short front.0) refl
