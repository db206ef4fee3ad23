-- A text that is read as a report is the one that would be written of it, but for how names are spelled.
use Rattle.std.proofs.Common.{◌≡◌, ℕ, true, List, [], ◌∷◌, length, map, codes, None, Some, Result, Ok, Err, refl, sym, ap, subst, ◌∙◌, inl, inr}
use Rattle.std.specs.Fmt.{decimal}
use Rattle.std.specs.List.{list_all}
use Rattle.std.specs.Cmp.Lexicographic.{bytes_decides}
use Rattle.std.proofs.lemmas.Bool.{and_parts, cases_Bool}
use Rattle.dns_model.specs.Keys.{bytes_eq}
use Rattle.dns_model.specs.Records.{Rr}
use Rattle.dns_model.specs.declared.section.Section.{Section}
use Rattle.dns_model.specs.declared.section.Section.TheVariants.{Answer, Authority, Additional}
use Rattle.dns_session.specs.LinePlaces.{Place, pieces, start_of, one, many, is_nothing}
use Rattle.dns_session.specs.Lines.{words, fixed, end_line}
use Rattle.dns_session.specs.Grammar.{if_ended}
use Rattle.dns_report.specs.LineWords.{denial_words}
use Rattle.dns_report.specs.View.{View, fitting_record, fitting_view}
use Rattle.dns_report.specs.Report.{view_text}
use Rattle.dns_text.proofs.LineShapes.{Line, is_line}
use Rattle.dns_report.proofs.LineBlocks.{one_line}
use Rattle.dns_report.proofs.ReportLines.{record_of, section_lines, last, later_lines, lines_of, text_is_lines}
use Rattle.dns_report.proofs.StepLines.{trail_lines}
use Rattle.dns_report.proofs.ReportLaw.{lines_good}
use Rattle.dns_audit.specs.ReportValue.{ReportValue}
use Rattle.dns_audit.specs.ReportLines.{report_header, code_line, denial_line, record_line}
use Rattle.dns_audit.specs.ReportGrammar.{chains_at, trail_at, end_at, report_at, report_of}
use Rattle.dns_audit.specs.Written.{short_record, short_view}
use Rattle.dns_audit.specs.Respelled.{WordsRespell, LinesRespell, Respelled, view_read}
use Rattle.dns_audit.proofs.FromSteps.{nothing_left, given, same_ok}
use Rattle.dns_audit.proofs.ReadLines.{words_are, code_from, denial_from, record_from}
use Rattle.dns_audit.proofs.ReadParts.{Tell, one_read, one_tells, Back, many_back, chains_back, trail_back}
use Rattle.dns_session.proofs.WordLines.{line_words}
use Rattle.dns_audit.proofs.WrittenLines.{left_of, text_pieces}
use Rattle.dns_audit.proofs.WrittenParts.{map_same}

-- a fixed line
fixed_is : (text line : List ℕ) → fixed text line ≡ Some tt → line ≡ text
fixed_is text line h =
    elim (cases_Bool (bytes_eq line text)) [
      | inl is ↦ (bytes_decides line text).0 is
      | inr isnt ↦ let none : None ≡ Some tt = rw isnt at h in cc
    ]

fixed_says : (text line : List ℕ) (said : Unit {0}) → fixed text line ≡ Some said → words line ≡ words text
fixed_says text line said h = ap words (fixed_is text line h)

records_back : (section : Section) (at : Place)
    → Back (one_line (record_of section)) (λ (r : Rr). r) fitting_record short_record at.pieces
    (many (record_line section) at).1.pieces (many (record_line section) at).0
records_back section = many_back (record_line section) (record_of section) (λ r. r) fitting_record short_record
    (λ line r h. record_from section (words line) r h)

ended : (at : Place) (said : Unit {0}) → ◌≡◌ {A = Result (Unit {0}) ℕ} (if_ended at said) (Ok said) → Tell at.pieces []
ended at said h =
    elim (cases_Bool (is_nothing at.pieces)) [
      | inl is ↦ subst (λ (ps : List (List ℕ)). Tell ps []) (sym (nothing_left at.pieces is)) refl
      | inr isnt ↦ let none : ◌≡◌ {A = Result (Unit {0}) ℕ} (Err at.number) (Ok said) = rw isnt at h in cc
    ]

last_tells : (at : Place) (said : Unit {0}) → end_at at ≡ Ok said → Tell at.pieces last
last_tells at said h =
    let line = given (one end_line at) _ said h in
    one_tells end_line at line.value (codes "end", []) [] line.was
    (λ text e. words_are (words text) (codes "end" ∷ []) (fixed_says (codes "end") text line.value.0 e))
    (ended line.value.1 said line.gives)

-- what a report that was read shows tells its lines
record ReportBack (before : List (List ℕ)) (r : ReportValue) : Type 0 where
  tells : Tell before (lines_of (view_read r))
  fits : fitting_view (view_read r) ≡ true
  short : short_view (view_read r) ≡ true

report_back : (start : Place) (r : ReportValue) → report_at start ≡ Ok r → ReportBack start.pieces r
unfolding report_at
report_back start r h =
    let head = given (one report_header start) _ r h in
    let code = given (one code_line head.value.1) _ r head.gives in
    let denial = given (one denial_line code.value.1) _ r code.gives in
    let answers = many (record_line Answer) denial.value.1 in
    let authorities = many (record_line Authority) answers.1 in
    let additionals = many (record_line Additional) authorities.1 in
    let chains = given (chains_at additionals.1) _ r denial.gives in
    let trail = given (trail_at chains.value.1) _ r chains.gives in
    let end = given (end_at trail.value.1) _ r trail.gives in
    let code_read = one_read code_line head.value.1 code.value code.was in
    let code_fits = (code_from (words code_read.line) code.value.0 code_read.says).1 in
    let a = records_back Answer denial.value.1 in
    let u = records_back Authority answers.1 in
    let n = records_back Additional authorities.1 in
    let k = chains_back (length additionals.1.pieces) additionals.1 chains.value chains.was in
    let t = trail_back chains.value.1 trail.value trail.was in
    let same_a : map (λ (r : Rr). r) answers.0 ≡ answers.0 = map_same answers.0 in
    let same_u : map (λ (r : Rr). r) authorities.0 ≡ authorities.0 = map_same authorities.0 in
    let same_n : map (λ (r : Rr). r) additionals.0 ≡ additionals.0 = map_same additionals.0 in
    let all_fit : List Rr → Type 0 = λ rs. list_all fitting_record rs ≡ true in
    let all_short : List Rr → Type 0 = λ rs. list_all short_record rs ≡ true in
    let a_fits : list_all fitting_record answers.0 ≡ true = subst all_fit same_a a.fits in
    let u_fits : list_all fitting_record authorities.0 ≡ true = subst all_fit same_u u.fits in
    let n_fits : list_all fitting_record additionals.0 ≡ true = subst all_fit same_n n.fits in
    let a_short : list_all short_record answers.0 ≡ true = subst all_short same_a a.short in
    let u_short : list_all short_record authorities.0 ≡ true = subst all_short same_u u.short in
    let n_short : list_all short_record additionals.0 ≡ true = subst all_short same_n n.short in
    let it : ReportValue = record {
      code = code.value.0;
      denial = denial.value.0;
      answers = answers.0;
      authorities = authorities.0;
      additionals = additionals.0;
      chains = chains.value.0;
      trail = trail.value.0;
    } in
    let view : View = view_read it in
    let trails = trail_lines view.trail last in
    let later = later_lines view in
    let third = section_lines Additional additionals.0 later in
    let second = section_lines Authority authorities.0 third in
    let first = section_lines Answer answers.0 second in
    let trail_tells : Tell chains.value.1.pieces trails = t.tells last (last_tells trail.value.1 end.value end.was) in
    let later_tells : Tell additionals.1.pieces later = k.tells trails trail_tells in
    let third_tells : Tell authorities.1.pieces third =
    subst (λ (rs : List Rr). Tell authorities.1.pieces (section_lines Additional rs later)) same_n
    (n.tells later later_tells) in
    let second_tells : Tell answers.1.pieces second =
    subst (λ (rs : List Rr). Tell answers.1.pieces (section_lines Authority rs third)) same_u
    (u.tells third third_tells) in
    let first_tells : Tell denial.value.1.pieces first =
    subst (λ (rs : List Rr). Tell denial.value.1.pieces (section_lines Answer rs second)) same_a
    (a.tells second second_tells) in
    let denied : Line = (codes "denial", denial_words denial.value.0) in
    let coded : Line = (codes "code", decimal code.value.0 ∷ []) in
    let denial_tells : Tell code.value.1.pieces (denied ∷ first) =
    one_tells denial_line code.value.1 denial.value denied first denial.was
    (λ text e. denial_from (words text) denial.value.0 e) first_tells in
    let code_tells : Tell head.value.1.pieces (coded ∷ denied ∷ first) =
    one_tells code_line head.value.1 code.value coded (denied ∷ first) code.was
    (λ text e. (code_from (words text) code.value.0 e).0) denial_tells in
    subst (ReportBack start.pieces) (same_ok it r end.gives)
    (record {
      tells =
          one_tells report_header start head.value (codes "dns-report", codes "1" ∷ []) (coded ∷ denied ∷ first)
          head.was
          (λ text e. words_are (words text) (codes "dns-report" ∷ codes "1" ∷ [])
          (fixed_says (codes "dns-report 1") text head.value.0 e))
          code_tells;
      fits = rw (code_fits, a_fits, u_fits, n_fits, k.fits) t.fits;
      short = rw (a_short, u_short, n_short, k.short) t.short;
    })

-- ---- lines as they are written

respelled_lines : (ps : List (List ℕ)) (ls : List Line) → list_all is_line ls ≡ true → Tell ps ls
    → LinesRespell ps (left_of ls)
respelled_lines [] ls good tells = absurd tells
respelled_lines (p ∷ ps) [] good tells =
    subst (λ (qs : List (List ℕ)). LinesRespell qs ([] ∷ [])) (sym tells) ((inl refl, tt), tt)
respelled_lines (p ∷ ps) (l ∷ ls) good tells =
    let parts = and_parts (is_line l) (list_all is_line ls) good in
    (subst (WordsRespell (words p)) (sym (line_words l parts.0)) tells.0, respelled_lines ps ls parts.1 tells.1)

pub read_is_respelled : (text : List ℕ) (r : ReportValue) → report_of text ≡ Ok r
    → Respelled text (view_text (view_read r))
read_is_respelled text r h =
    let back = report_back (start_of text) r h in
    let good = lines_good (view_read r) back.fits in
    let written : pieces 10 (view_text (view_read r)) ≡ left_of (lines_of (view_read r)) =
    ap (pieces 10) (sym (text_is_lines (view_read r))) ∙ text_pieces (lines_of (view_read r)) good in
    subst (LinesRespell (pieces 10 text)) (sym written)
    (respelled_lines (pieces 10 text) (lines_of (view_read r)) good back.tells)

pub read_fits : (text : List ℕ) (r : ReportValue) → report_of text ≡ Ok r → fitting_view (view_read r) ≡ true
read_fits text r h = (report_back (start_of text) r h).fits

pub read_is_short : (text : List ℕ) (r : ReportValue) → report_of text ≡ Ok r → short_view (view_read r) ≡ true
read_is_short text r h = (report_back (start_of text) r h).short
