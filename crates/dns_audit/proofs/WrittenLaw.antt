-- A report that is written is read as what it shows.
use Rattle.std.proofs.Common.{◌≡◌, ℕ, ◌+◌, true, false, ◌&&◌, List, [], ◌∷◌, length, map, codes, Option, None, Some, Ok, refl, sym, ap, ◌∙◌}
use Rattle.std.specs.Fmt.{decimal}
use Rattle.std.specs.List.{list_all}
use Rattle.std.proofs.lemmas.Bool.{and_parts}
use Rattle.dns_model.specs.Records.{Rr}
use Rattle.dns_model.specs.declared.section.Section.{Section}
use Rattle.dns_model.specs.declared.section.Section.TheVariants.{Answer, Authority, Additional}
use Rattle.dns_session.specs.LinePlaces.{place, pieces, one}
use Rattle.dns_report.specs.LineWords.{section_word, denial_words}
use Rattle.dns_report.specs.TrailView.{StepView}
use Rattle.dns_report.specs.View.{ChainView, View, fitting_record, fitting_chain, fitting_view}
use Rattle.dns_report.specs.Report.{view_text}
use Rattle.dns_text.proofs.LineShapes.{Line}
use Rattle.dns_report.proofs.LineBlocks.{blocks, starts, named}
use Rattle.dns_report.proofs.FieldWords.{number_good}
use Rattle.dns_report.proofs.RecordLaws.{record_good}
use Rattle.dns_report.proofs.ReportLines.{record_of, section_lines, chain_lines, last, later_lines, lines_of, text_is_lines}
use Rattle.dns_report.proofs.ReportLaw.{fitting, trail_no_chain, later_begins, additionals_begin, others_begin, lines_good}
use Rattle.dns_report.proofs.StepLines.{trail_lines}
use Rattle.dns_report.specs.Fields.{is_u32}
use Rattle.dns_audit.specs.ReportLines.{report_header, code_line, denial_line, record_line}
use Rattle.dns_audit.specs.ReportGrammar.{end_at, report_at, report_of}
use Rattle.dns_audit.specs.Written.{report_shown, short_view, short_record, short_chain, short_trail, short_step}
use Rattle.dns_audit.proofs.WrittenLines.{left_of, text_pieces, one_line_read}
use Rattle.dns_audit.proofs.WrittenForms.{record_then, chain_then, code_reads, denial_reads, record_reads}
use Rattle.dns_audit.proofs.WrittenParts.{Many, many_reads, all_say, FirstGood, blocks_first, named_stops, front_good, longer_chains, chains_read, map_same, trail_reads}

-- a view that fits into a report
record Short (v : View) : Type 0 where
  answers : list_all short_record v.answers ≡ true
  authorities : list_all short_record v.authorities ≡ true
  additionals : list_all short_record v.additionals ≡ true
  chains : list_all short_chain v.chains ≡ true
  trail : short_trail v.trail ≡ true

short : (v : View) → short_view v ≡ true → Short v
short v h =
    let later = list_all short_chain v.chains && short_trail v.trail in
    let a = and_parts (list_all short_record v.answers)
    (list_all short_record v.authorities && (list_all short_record v.additionals && later)) h in
    let b = and_parts (list_all short_record v.authorities) (list_all short_record v.additionals && later) a.1 in
    let c = and_parts (list_all short_record v.additionals) later b.1 in
    let d = and_parts (list_all short_chain v.chains) (short_trail v.trail) c.1 in
    record { answers = a.0; authorities = b.0; additionals = c.0; chains = d.0; trail = d.1 }

-- ---- the line that follows is one of words

trail_first : (trail : Option (List StepView)) → short_trail trail ≡ true → FirstGood (trail_lines trail last)
trail_first None h = refl
trail_first (Some steps) h =
    let size = and_parts (is_u32 (length steps)) (list_all short_step steps) h in rw (number_good (length steps) size.0) refl

later_first : (chains : List ChainView) (trail : Option (List StepView)) → list_all fitting_chain chains ≡ true
    → short_trail trail ≡ true → FirstGood (blocks chain_lines chains (trail_lines trail last))
later_first [] trail h short = trail_first trail short
later_first (c ∷ cs) trail h short = front_good c (and_parts (fitting_chain c) (list_all fitting_chain cs) h).0

records_read : (section : Section) (rs : List Rr) (more : List Line) → list_all fitting_record rs ≡ true
    → list_all short_record rs ≡ true → FirstGood more → starts (named (section_word section)) more ≡ false → (number : ℕ)
    → Many (record_line section) number (section_lines section rs more) more (map (λ r. r) rs)
records_read section rs more h short good other number =
    many_reads (record_line section) (record_of section) (λ r. r) rs more
    (all_say (record_line section) (record_of section) (λ r. r) fitting_record short_record (record_reads section) rs h short)
    (named_stops (section_word section) record_then more good other) number

-- ---- the whole

last_read : (number : ℕ) → end_at (place number (left_of last)) ≡ Ok tt
unfolding one
last_read number = refl

-- a report's lines are read as what it shows, whatever the number of the first
lines_read : (v : View) → fitting_view v ≡ true → short_view v ≡ true → (number : ℕ)
    → report_at (place number (left_of (lines_of v))) ≡ Ok (report_shown v)
unfolding report_at
lines_read v h small number =
    let f = fitting v h in
    let s = short v small in
    let later = later_lines v in
    let third = section_lines Additional v.additionals later in
    let second = section_lines Authority v.authorities third in
    let first = section_lines Answer v.answers second in
    let good_later = later_first v.chains v.trail f.chains s.trail in
    let good_third = blocks_first (record_of Additional) fitting_record (record_good Additional) v.additionals later
    f.additionals good_later in
    let good_second = blocks_first (record_of Authority) fitting_record (record_good Authority) v.authorities third
    f.authorities good_third in
    let head = one_line_read report_header number (codes "dns-report", codes "1" ∷ [])
    ((codes "code", decimal v.code ∷ []) ∷ (codes "denial", denial_words v.denial) ∷ first) tt refl in
    let code = one_line_read code_line (number + 1) (codes "code", decimal v.code ∷ []) ((codes "denial", denial_words v.denial) ∷ first)
    v.code (code_reads v.code f.code) in
    let denial = one_line_read denial_line (number + 1 + 1) (codes "denial", denial_words v.denial) first v.denial
    (denial_reads v.denial) in
    let answers = records_read Answer v.answers second f.answers s.answers good_second (others_begin v) (number + 1 + 1 + 1) in
    let authorities = records_read Authority v.authorities third f.authorities s.authorities good_third (additionals_begin v)
    answers.next in
    let additionals = records_read Additional v.additionals later f.additionals s.additionals good_later
    (later_begins Additional v) authorities.next in
    let chains = chains_read v.chains (trail_lines v.trail last) f.chains s.chains
    (named_stops (codes "chain") chain_then (trail_lines v.trail last) (trail_first v.trail s.trail) (trail_no_chain v.trail))
    (length (left_of later)) (longer_chains v.chains (trail_lines v.trail last)) additionals.next in
    let trail = trail_reads v.trail f.trail s.trail chains.next in
    rw (
      head,
      code,
      denial,
      answers.reads,
      authorities.reads,
      additionals.reads,
      chains.reads,
      trail.reads,
      last_read trail.next,
      map_same v.answers,
      map_same v.authorities,
      map_same v.additionals,
    ) refl

pub report_read : (v : View) → fitting_view v ≡ true → short_view v ≡ true → (number : ℕ)
    → report_at (place number (pieces 10 (view_text v))) ≡ Ok (report_shown v)
report_read v h small number =
    ap (λ ps. report_at (place number ps)) (ap (pieces 10) (sym (text_is_lines v)) ∙ text_pieces (lines_of v) (lines_good v h))
    ∙ lines_read v h small number

pub written_is_read : (v : View) → fitting_view v ≡ true → short_view v ≡ true
    → report_of (view_text v) ≡ Ok (report_shown v)
written_is_read v h small = report_read v h small 1
