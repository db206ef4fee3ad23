-- The line of a record tells the record, and the lines of a section its records.
use Rattle.std.proofs.Common.{◌≡◌, true, false, List, [], get_or, refl, ap}
use Rattle.std.specs.Fmt.{decimal}
use Rattle.std.specs.List.{list_all}
use Rattle.dns_model.specs.NameText.{printed}
use Rattle.dns_model.specs.Records.{Rr}
use Rattle.dns_model.specs.declared.section.Section.{Section}
use Rattle.dns_model.proofs.ChainLemmas.{bytes_refl}
use Rattle.dns_record.specs.Words.{type_word, class_word}
use Rattle.dns_text.specs.Words.{octets_word}
use Rattle.dns_text.proofs.WordShapes.{octets_is_word, octets_injective}
use Rattle.dns_report.specs.LineWords.{mark_word, section_word}
use Rattle.dns_report.specs.View.{fitting_record}
use Rattle.dns_text.proofs.LineShapes.{Line, is_line}
use Rattle.dns_report.proofs.NameShapes.{printed_word}
use Rattle.dns_report.proofs.MarkWords.{mark_injective, mark_is_word, section_is_word}
use Rattle.dns_report.proofs.FieldWords.{FitFields, fit_fields, class_good, type_good, number_good, name_tells, class_tells, type_tells, number_tells}
use Rattle.dns_report.proofs.LineBlocks.{Same, one_line, starts, named, one_line_tells, blocks_tell, one_line_good, blocks_good}
use Rattle.dns_report.proofs.ReportLines.{record_of, section_lines}

pub fields_of : (r : Rr) → fitting_record r ≡ true → FitFields r.owner r.class r.rtype r.ttl r.rdata
fields_of r h = fit_fields r.owner r.class r.rtype r.ttl r.rdata h

pub record_good : (section : Section) (r : Rr) → fitting_record r ≡ true → is_line (record_of section r) ≡ true
record_good section r h =
    let f = fields_of r h in
    rw (
      section_is_word section,
      printed_word r.owner,
      class_good r.class f.class,
      type_good r.rtype f.rtype,
      number_good r.ttl f.ttl,
      mark_is_word r.proof,
      octets_is_word r.rdata f.rdata,
    ) refl

rr_same : (r q : Rr) → r.owner ≡ q.owner → r.rtype ≡ q.rtype → r.class ≡ q.class → r.ttl ≡ q.ttl → r.rdata ≡ q.rdata
    → r.proof ≡ q.proof → r ≡ q
rr_same r q owner rtype class ttl rdata mark = λ i. record {
  owner = owner i;
  rtype = rtype i;
  class = class i;
  ttl = ttl i;
  rdata = rdata i;
  proof = mark i;
}

-- a record's line tells it
record_tells : (section : Section) (r q : Rr) → fitting_record r ≡ true → fitting_record q ≡ true
    → record_of section r ≡ record_of section q → r ≡ q
record_tells section r q first second h =
    let f = fields_of r first in
    let g = fields_of q second in
    let owner : printed r.owner ≡ printed q.owner = ap (λ (l : Line). get_or l.1 0 []) h in
    let class : class_word r.class ≡ class_word q.class = ap (λ (l : Line). get_or l.1 1 []) h in
    let rtype : type_word r.rtype ≡ type_word q.rtype = ap (λ (l : Line). get_or l.1 2 []) h in
    let ttl : decimal r.ttl ≡ decimal q.ttl = ap (λ (l : Line). get_or l.1 3 []) h in
    let mark : mark_word r.proof ≡ mark_word q.proof = ap (λ (l : Line). get_or l.1 4 []) h in
    let rdata : octets_word r.rdata ≡ octets_word q.rdata = ap (λ (l : Line). get_or l.1 5 []) h in
    rr_same r q
    (name_tells r.owner q.owner f.owner g.owner owner) (type_tells r.rtype q.rtype f.rtype g.rtype rtype)
    (class_tells r.class q.class f.class g.class class)
    (number_tells r.ttl q.ttl f.ttl g.ttl ttl) (octets_injective r.rdata q.rdata f.rdata g.rdata rdata)
    (mark_injective r.proof q.proof mark)

-- ---- the records of a section

pub section_tells : (section : Section) (rs qs : List Rr) (x y : List Line) → list_all fitting_record rs ≡ true
    → list_all fitting_record qs ≡ true
    → starts (named (section_word section)) x ≡ false → starts (named (section_word section)) y ≡ false
    → section_lines section rs x ≡ section_lines section qs y → Same rs qs x y
section_tells section =
    blocks_tell (one_line (record_of section)) fitting_record (named (section_word section))
    (one_line_tells (record_of section) fitting_record (record_tells section))
    (λ r x. bytes_refl (section_word section))

pub records_good : (section : Section) (rs : List Rr) (more : List Line) → list_all fitting_record rs ≡ true
    → list_all is_line more ≡ true
    → list_all is_line (section_lines section rs more) ≡ true
records_good section =
    blocks_good (one_line (record_of section)) fitting_record
    (one_line_good (record_of section) fitting_record (record_good section))
