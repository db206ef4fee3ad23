-- The text of a report tells its view.
use Rattle.std.proofs.Common.{◌≡◌, true, false, ◌&&◌, List, [], ◌∷◌, codes, get_or, Option, None, Some, refl, sym, ap, ◌∙◌}
use Rattle.std.specs.Fmt.{decimal}
use Rattle.std.specs.List.{list_all}
use Rattle.std.proofs.lemmas.Bool.{and_parts}
use Rattle.dns_model.specs.declared.section.Section.{Section}
use Rattle.dns_model.specs.declared.section.Section.TheVariants.{Answer, Authority, Additional}
use Rattle.dns_report.specs.LineWords.{section_word, denial_words}
use Rattle.dns_report.specs.Fields.{is_u16}
use Rattle.dns_report.specs.TrailView.{StepView, fitting_trail}
use Rattle.dns_report.specs.View.{ChainView, View, fitting_record, fitting_chain, fitting_view}
use Rattle.dns_report.specs.Report.{view_text}
use Rattle.dns_text.proofs.LineShapes.{Line, is_line}
use Rattle.dns_report.proofs.LineLaws.{lines_same}
use Rattle.dns_report.proofs.MarkWords.{denial_injective, denial_is_words}
use Rattle.dns_report.proofs.FieldWords.{small_good, small_tells}
use Rattle.dns_report.proofs.LineBlocks.{one_line, starts, named, first_line, other_lines, blocks_start}
use Rattle.dns_report.proofs.RecordLaws.{section_tells, records_good}
use Rattle.dns_report.proofs.LinkLaws.{chains_tell, chains_good}
use Rattle.dns_report.proofs.StepLines.{trail_lines}
use Rattle.dns_report.proofs.StepLaws.{trail_tells, trail_good}
use Rattle.dns_report.proofs.ReportLines.{record_of, section_lines, chain_lines, last, later_lines, lines_of, text_is_lines}

pub record Fitting (v : View) : Type 0 where
  pub code : is_u16 v.code ≡ true
  pub answers : list_all fitting_record v.answers ≡ true
  pub authorities : list_all fitting_record v.authorities ≡ true
  pub additionals : list_all fitting_record v.additionals ≡ true
  pub chains : list_all fitting_chain v.chains ≡ true
  pub trail : fitting_trail v.trail ≡ true

pub fitting : (v : View) → fitting_view v ≡ true → Fitting v
fitting v h =
    let later = list_all fitting_chain v.chains && fitting_trail v.trail in
    let a =
    and_parts (is_u16 v.code)
    (list_all fitting_record v.answers && (list_all fitting_record v.authorities && (list_all fitting_record v.additionals && later))) h in
    let b =
    and_parts (list_all fitting_record v.answers)
    (list_all fitting_record v.authorities && (list_all fitting_record v.additionals && later)) a.1 in
    let c = and_parts (list_all fitting_record v.authorities) (list_all fitting_record v.additionals && later) b.1 in
    let d = and_parts (list_all fitting_record v.additionals) later c.1 in
    let e = and_parts (list_all fitting_chain v.chains) (fitting_trail v.trail) d.1 in
    record { code = a.0; answers = b.0; authorities = c.0; additionals = d.0; chains = e.0; trail = e.1 }

-- ---- which line comes next

pub trail_begins : (section : Section) (trail : Option (List StepView))
    → starts (named (section_word section)) (trail_lines trail last) ≡ false
trail_begins Answer None = refl
trail_begins Answer (Some steps) = refl
trail_begins Authority None = refl
trail_begins Authority (Some steps) = refl
trail_begins Additional None = refl
trail_begins Additional (Some steps) = refl

pub trail_no_chain : (trail : Option (List StepView)) → starts (named (codes "chain")) (trail_lines trail last) ≡ false
trail_no_chain None = refl
trail_no_chain (Some steps) = refl

chain_begins : (section : Section) (c : ChainView) (more : List Line)
    → starts (named (section_word section)) (chain_lines c more) ≡ false
chain_begins Answer c more = refl
chain_begins Authority c more = refl
chain_begins Additional c more = refl

pub later_begins : (section : Section) (v : View) → starts (named (section_word section)) (later_lines v) ≡ false
later_begins section v =
    blocks_start chain_lines (named (section_word section)) (chain_begins section) v.chains (trail_lines v.trail last)
    (trail_begins section v.trail)

pub additionals_begin : (v : View)
    → starts (named (section_word Authority)) (section_lines Additional v.additionals (later_lines v)) ≡ false
additionals_begin v =
    blocks_start (one_line (record_of Additional)) (named (section_word Authority)) (λ r x. refl) v.additionals
    (later_lines v) (later_begins Authority v)

pub others_begin : (v : View)
    → starts (named (section_word Answer))
    (section_lines Authority v.authorities (section_lines Additional v.additionals (later_lines v))) ≡ false
others_begin v =
    blocks_start (one_line (record_of Authority)) (named (section_word Answer)) (λ r x. refl) v.authorities
    (section_lines Additional v.additionals (later_lines v))
    (blocks_start (one_line (record_of Additional)) (named (section_word Answer)) (λ r x. refl) v.additionals (later_lines v)
    (later_begins Answer v))

-- ---- the whole

view_same : (v w : View) → v.code ≡ w.code → v.denial ≡ w.denial → v.answers ≡ w.answers
    → v.authorities ≡ w.authorities → v.additionals ≡ w.additionals → v.chains ≡ w.chains → v.trail ≡ w.trail → v ≡ w
view_same v w code denial answers authorities additionals chains trail = λ i. record {
  code = code i;
  denial = denial i;
  answers = answers i;
  authorities = authorities i;
  additionals = additionals i;
  chains = chains i;
  trail = trail i;
}

lines_tell : (v w : View) → fitting_view v ≡ true → fitting_view w ≡ true → lines_of v ≡ lines_of w → v ≡ w
lines_tell v w first second h =
    let f = fitting v first in
    let g = fitting w second in
    let after_head = other_lines h in
    let code_line : ◌≡◌ {A = Line} (codes "code", decimal v.code ∷ []) (codes "code", decimal w.code ∷ []) =
    first_line after_head in
    let code : decimal v.code ≡ decimal w.code = ap (λ (l : Line). get_or l.1 0 []) code_line in
    let after_code = other_lines after_head in
    let denial_line : ◌≡◌ {A = Line} (codes "denial", denial_words v.denial) (codes "denial", denial_words w.denial) =
    first_line after_code in
    let denial : denial_words v.denial ≡ denial_words w.denial = ap (λ (l : Line). l.1) denial_line in
    let answers =
    section_tells Answer v.answers w.answers
    (section_lines Authority v.authorities (section_lines Additional v.additionals (later_lines v)))
    (section_lines Authority w.authorities (section_lines Additional w.additionals (later_lines w)))
    f.answers g.answers (others_begin v) (others_begin w) (other_lines after_code) in
    let authorities =
    section_tells Authority v.authorities w.authorities (section_lines Additional v.additionals (later_lines v))
    (section_lines Additional w.additionals (later_lines w)) f.authorities g.authorities (additionals_begin v)
    (additionals_begin w) answers.rest in
    let additionals = section_tells Additional v.additionals w.additionals (later_lines v) (later_lines w)
    f.additionals g.additionals (later_begins Additional v) (later_begins Additional w) authorities.rest in
    let chains = chains_tell v.chains w.chains (trail_lines v.trail last) (trail_lines w.trail last)
    f.chains g.chains (trail_no_chain v.trail) (trail_no_chain w.trail) additionals.rest in
    view_same v w
    (small_tells v.code w.code f.code g.code code)
    (denial_injective v.denial w.denial denial) answers.value authorities.value additionals.value
    chains.value (trail_tells v.trail w.trail last last f.trail g.trail refl refl chains.rest)

pub lines_good : (v : View) → fitting_view v ≡ true → list_all is_line (lines_of v) ≡ true
lines_good v h =
    let f = fitting v h in
    let later = chains_good v.chains (trail_lines v.trail last) f.chains (trail_good v.trail last f.trail refl) in
    let third = records_good Additional v.additionals (later_lines v) f.additionals later in
    let second =
    records_good Authority v.authorities (section_lines Additional v.additionals (later_lines v)) f.authorities third in
    let first =
    records_good Answer v.answers
    (section_lines Authority v.authorities (section_lines Additional v.additionals (later_lines v))) f.answers second in
    rw (small_good v.code f.code, denial_is_words v.denial) first

-- two views with one text are one view
pub text_tells_view : (v w : View) → fitting_view v ≡ true → fitting_view w ≡ true → view_text v ≡ view_text w → v ≡ w
text_tells_view v w first second h =
    lines_tell v w first second
    (lines_same (lines_of v) (lines_of w) (lines_good v first) (lines_good w second) (text_is_lines v ∙ h ∙ sym (text_is_lines w)))
