-- A line that is written is read as what it was written for.
use Rattle.std.proofs.Common.{◌≡◌, ℕ, ◌^◌, ◌<◌, true, false, ◌&&◌, List, [], ◌∷◌, ◌++◌, length, map, codes, Option, Some, refl, ap, ◌∙◌, arith}
use Rattle.std.specs.Fmt.{decimal}
use Rattle.std.specs.List.{list_all}
use Rattle.std.proofs.lemmas.Bool.{and_parts}
use Rattle.dns_model.specs.Bytes.{is_bytes}
use Rattle.dns_model.specs.Keys.{bytes_eq}
use Rattle.dns_model.specs.Records.{Rr}
use Rattle.dns_model.specs.Trails.{JudgedSetValue, EndingValue, Answered, Denied, Foreign, Failed, Seen}
use Rattle.dns_model.specs.declared.denial.Denial.{Denial}
use Rattle.dns_model.specs.declared.denial.Denial.TheVariants as denial
use Rattle.dns_model.specs.declared.section.Section.{Section}
use Rattle.dns_model.specs.declared.section.Section.TheVariants.{Answer, Authority, Additional}
use Rattle.dns_model.specs.declared.trail.AskRef.{AskRef}
use Rattle.dns_model.specs.OptionSteps.{◌>>=◌}
use Rattle.dns_model.specs.Types.{class_in}
use Rattle.dns_session.specs.Lines.{Words, after, single, double, quadruple}
use Rattle.dns_model.specs.NameText.{printed}
use Rattle.dns_model.specs.Chains.{LinkValue}
use Rattle.dns_record.specs.Words.{type_word, class_word}
use Rattle.dns_text.specs.Words.{octets_word}
use Rattle.dns_report.specs.LineWords.{section_word, denial_words}
use Rattle.dns_report.specs.Fields.{fitting_name, is_u16, is_u32}
use Rattle.dns_report.specs.View.{Numbered, Shown, Anchored, Matched, KeySet, Signed, ChainView, fitting_record, fitting_key, fitting_link}
use Rattle.dns_report.specs.Report.{key_words}
use Rattle.dns_report.specs.TrailView.{ToldRecord, HeardView, Records, Fault, StepView, fitting_told, fitting_heard, fitting_set, fitting_ending, fitting_ask}
use Rattle.dns_report.specs.TrailLines.{ask_word, ending_words}
use Rattle.dns_text.proofs.LineShapes.{is_line}
use Rattle.dns_report.proofs.MarkWords.{denial_is_words}
use Rattle.dns_report.proofs.FieldWords.{small_good, number_good, below_u16}
use Rattle.dns_report.proofs.TrailWords.{fits_foreign, no_number}
use Rattle.dns_report.proofs.ReportLines.{record_of, link_of, front_of}
use Rattle.dns_report.proofs.RecordLaws.{fields_of, record_good}
use Rattle.dns_report.proofs.LinkLaws.{fits_anchored, fits_matched, fits_key_set, fits_signed, link_good}
use Rattle.dns_report.proofs.StepLines.{step_of, got_of, told_of, set_of, ending_of, count_of}
use Rattle.dns_report.proofs.StepLaws.{fits_told, told_good, fits_records, got_good, fits_set, set_good, ending_line_good, FitsStep, step_line_good}
use Rattle.dns_audit.specs.ReportValue.{ChainHead, StepHead, StepEnd, GotValue, Code, NoReply}
use Rattle.dns_audit.specs.ReportWords.{u16_in, u32_in, section_in}
use Rattle.dns_audit.specs.LineParts.{quintuple, sextuple, first_of}
use Rattle.dns_audit.specs.ReportLines.{code_line, whole, denial_by, denial_line, record_in, record_line, chain_line, numbered_key, numbered_in, link_by, link_line, trail_line, step_in, step_line, got_by, got_in, got_line, unmarked_in, told_line, set_in, set_line, plain_by, ending_by, ending_in, ending_line}
use Rattle.dns_audit.specs.Written.{is_short, short_key, short_link, short_record, short_told, link_shown, told_shown}
use Rattle.dns_session.proofs.WordLines.{joined, line_words}
use Rattle.dns_audit.proofs.WrittenWords.{mark_read, section_read, purpose_read, name_read, class_read, type_read, small_read, number_read, rdata_read, not_decimal, origin_read, place_read, asks_read, rdatas_read}

-- ---- the forms of lines, by their words

abbrev pub code_by : Words → Option ℕ
code_by ws = after (codes "code") ws >>= λ rest. single rest >>= u16_in

abbrev pub denial_words_by : Words → Option Denial
denial_words_by ws =
    after (codes "denial") ws >>= λ rest. first_of rest >>= λ front. denial_by front.0 front.1 >>= λ read. whole read.0 read.1

abbrev pub record_then : Words → Option Rr
record_then rest = sextuple rest >>= λ fields. record_in fields.0 fields.1 fields.2 fields.3 fields.4 fields.5

abbrev pub record_by : Section → Words → Option Rr
record_by section ws = after (section_word section) ws >>= record_then

abbrev made_head : Section → ℕ → ChainHead
made_head section count = record { section = section; count = count }

abbrev pub chain_then : Words → Option ChainHead
chain_then rest =
    double rest >>= λ fields. section_in fields.0 >>= λ section. u32_in fields.1 >>= λ count. Some (made_head section count)

abbrev pub chain_by : Words → Option ChainHead
chain_by ws = after (codes "chain") ws >>= chain_then

abbrev pub link_words : Words → Option LinkValue
link_words ws = first_of ws >>= λ front. link_by front.0 front.1

abbrev pub trail_by : Words → Option ℕ
trail_by ws = after (codes "trail") ws >>= λ rest. single rest >>= u32_in

abbrev pub step_by : Words → Option StepHead
step_by ws =
    after (codes "step") ws >>= λ rest. quadruple rest >>= λ fields. step_in fields.0 fields.1 fields.2 fields.3

abbrev pub got_words_in : Words → Option GotValue
got_words_in ws = after (codes "got") ws >>= got_in

abbrev pub told_by : Section → Words → Option Rr
told_by section ws =
    after (codes "told") ws >>= after (section_word section)
    >>= λ rest. quintuple rest >>= λ fields. unmarked_in fields.0 fields.1 fields.2 fields.3 fields.4

abbrev pub set_by : Words → Option JudgedSetValue
set_by ws = after (codes "set") ws >>= set_in

abbrev pub ending_words_in : Words → Option StepEnd
ending_words_in ws = after (codes "ending") ws >>= ending_in

section_after : (section : Section) (ws : Words)
    → after (section_word section) (section_word section ∷ ws) ≡ Some ws
section_after Answer ws = refl
section_after Authority ws = refl
section_after Additional ws = refl

pub code_reads : (code : ℕ) → is_u16 code ≡ true
    → code_line (joined (codes "code", decimal code ∷ [])) ≡ Some code
code_reads code h =
    let good : is_line (codes "code", decimal code ∷ []) ≡ true = rw (small_good code h) refl in
    ap code_by (line_words (codes "code", decimal code ∷ []) good) ∙ small_read code h

denial_words_read : (d : Denial) → denial_words_by (codes "denial" ∷ denial_words d) ≡ Some d
unfolding whole
denial_words_read denial.None = refl
denial_words_read (denial.Absent mark) = rw (mark_read mark) refl
denial_words_read (denial.Expanded mark) = rw (mark_read mark) refl

pub denial_reads : (d : Denial) → denial_line (joined (codes "denial", denial_words d)) ≡ Some d
denial_reads d =
    ap denial_words_by (line_words (codes "denial", denial_words d) (rw (denial_is_words d) refl))
    ∙ denial_words_read d

pub record_reads : (section : Section) (r : Rr) → fitting_record r ≡ true → short_record r ≡ true
    → record_line section (joined (record_of section r)) ≡ Some r
record_reads section r h short =
    let f = fields_of r h in
    ap (record_by section) (line_words (record_of section r) (record_good section r h))
    ∙ rw (
      section_after section (record_of section r).1,
      name_read r.owner f.owner,
      class_read r.class f.class,
      type_read r.rtype f.rtype,
      number_read r.ttl f.ttl,
      mark_read r.proof,
      rdata_read r.rdata f.rdata short,
    ) refl

pub front_reads : (chain : ChainView) → is_u32 (length chain.links) ≡ true → is_line (front_of chain) ≡ true
    → chain_line (joined (front_of chain)) ≡ Some (record { section = chain.section; count = length chain.links })
front_reads chain h good =
    ap chain_by (line_words (front_of chain) good)
    ∙ rw (section_read chain.section, number_read (length chain.links) h) refl

keys_read : (keys : List Numbered) → list_all fitting_key keys ≡ true → list_all short_key keys ≡ true
    → numbered_in (key_words keys) ≡ Some (map (λ (k : Numbered). k.0) keys, map (λ (k : Numbered). k.1) keys)
unfolding numbered_in numbered_key key_words
keys_read [] h short = refl
keys_read (k ∷ ks) h short =
    let parts = and_parts (fitting_key k) (list_all fitting_key ks) h in
    let sizes = and_parts (short_key k) (list_all short_key ks) short in
    let both = and_parts (is_u32 k.0) (is_bytes k.1) parts.0 in
    rw (number_read k.0 both.0, rdata_read k.1 both.1 sizes.0, keys_read ks parts.1 sizes.1) refl

pub link_reads : (l : Shown) → fitting_link l ≡ true → short_link l ≡ true
    → link_line (joined (link_of l)) ≡ Some (link_shown l)
unfolding link_by
link_reads (Anchored owner class key) h short =
    let f = fits_anchored owner class key h in
    ap link_words (line_words (link_of (Anchored owner class key)) (link_good (Anchored owner class key) h))
    ∙ rw (
      name_read owner f.named,
      class_read class f.classed,
      rdata_read key f.keyed short,
    ) refl
link_reads (Matched owner class key ds_link ds) h short =
    let f = fits_matched owner class key ds_link ds h in
    let sizes = and_parts (is_short key) (is_short ds) short in
    ap link_words (line_words (link_of (Matched owner class key ds_link ds))
    (link_good (Matched owner class key ds_link ds) h))
    ∙ rw (
      name_read owner f.named,
      class_read class f.classed,
      rdata_read key f.keyed sizes.0,
      number_read ds_link f.linked,
      rdata_read ds f.shown sizes.1,
    ) refl
link_reads (KeySet owner class keys) h short =
    let f = fits_key_set owner class keys h in
    ap link_words (line_words (link_of (KeySet owner class keys)) (link_good (KeySet owner class keys) h))
    ∙ rw (
      name_read owner f.named,
      class_read class f.classed,
      keys_read keys f.keyed short,
    ) refl
link_reads (Signed owner class rtype rdatas sig key_link key) h short =
    let f = fits_signed owner class rtype rdatas sig key_link key h in
    let a = and_parts (is_short key) (is_short sig && list_all is_short rdatas) short in
    let b = and_parts (is_short sig) (list_all is_short rdatas) a.1 in
    ap link_words (line_words (link_of (Signed owner class rtype rdatas sig key_link key))
    (link_good (Signed owner class rtype rdatas sig key_link key) h))
    ∙ rw (
      name_read owner f.named,
      class_read class f.classed,
      type_read rtype f.typed,
      number_read key_link f.linked,
      rdata_read key f.keyed a.0,
      rdata_read sig f.signed b.0,
      rdatas_read rdatas f.listed b.1,
    ) refl

-- ---- the lines of a trail

pub count_reads : (steps : List StepView) → is_u32 (length steps) ≡ true
    → trail_line (joined (count_of steps)) ≡ Some (length steps)
count_reads steps h =
    let good : is_line (count_of steps) ≡ true = rw (number_good (length steps) h) refl in
    ap trail_by (line_words (count_of steps) good) ∙ number_read (length steps) h

pub step_reads : (s : StepView) → FitsStep s
    → step_line (joined (step_of s))
    ≡ Some (record { depth = s.depth; judged = s.judged; query = record { owner = s.owner; rtype = s.rtype; class = class_in } })
step_reads s f =
    ap step_by (line_words (step_of s) (step_line_good s f))
    ∙ rw (
      small_read s.depth f.depth,
      purpose_read s.judged,
      name_read s.owner f.owner,
      type_read s.rtype f.rtype,
    ) refl

-- what the line of a reply says
abbrev pub got_shown : HeardView → GotValue
got_shown (Records code empty answers authorities additionals) = Code code empty
got_shown Fault = NoReply

not_fault : (code : ℕ) → is_u16 code ≡ true → bytes_eq (decimal code) (codes "fault") ≡ false
not_fault code h =
    let le = below_u16 code h in
    let fits : code < 2 ^ 64 = omega (arith, le) in
    not_decimal code (codes "fault") fits (λ e. no_number code (codes "fault") fits refl e)

pub got_reads : (reply : HeardView) → fitting_heard reply ≡ true
    → got_line (joined (got_of reply)) ≡ Some (got_shown reply)
unfolding got_by
got_reads (Records code true a u n) h =
    let f = fits_records code true a u n h in
    ap got_words_in (line_words (got_of (Records code true a u n)) (got_good (Records code true a u n) h))
    ∙ rw (small_read code f.coded) refl
got_reads (Records code false a u n) h =
    let f = fits_records code false a u n h in
    ap got_words_in (line_words (got_of (Records code false a u n)) (got_good (Records code false a u n) h))
    ∙ rw (not_fault code f.coded, small_read code f.coded) refl
got_reads Fault h = ap got_words_in (line_words (got_of Fault) refl)

pub told_reads : (section : Section) (r : ToldRecord) → fitting_told r ≡ true → short_told r ≡ true
    → told_line section (joined (told_of section r)) ≡ Some (told_shown r)
told_reads section r h short =
    let f = fits_told r h in
    ap (told_by section) (line_words (told_of section r) (told_good section r h))
    ∙ rw (
      section_after section
          (printed r.owner ∷ class_word r.class ∷ type_word r.rtype ∷ decimal r.ttl ∷ octets_word r.rdata ∷ []),
      name_read r.owner f.owner,
      class_read r.class f.class,
      type_read r.rtype f.rtype,
      number_read r.ttl f.ttl,
      rdata_read r.rdata f.rdata short,
    ) refl

pub set_reads : (s : JudgedSetValue) → fitting_set s ≡ true → set_line (joined (set_of s)) ≡ Some s
set_reads s h =
    let f = fits_set s h in
    ap set_by (line_words (set_of s) (set_good s h))
    ∙ rw (
      section_read s.section,
      name_read s.owner f.owner,
      type_read s.rtype f.rtype,
      mark_read s.mark,
      origin_read s.origin f.origin,
      place_read s.sig f.place,
      asks_read s.asked f.asked,
    ) refl

ending_words_read : (e : EndingValue) (asks : List AskRef) → fitting_ending e ≡ true
    → list_all fitting_ask asks ≡ true
    → ending_words_in (codes "ending" ∷ (ending_words e ++ map ask_word asks))
    ≡ Some (record { ending = e; excuse = asks })
unfolding ending_by plain_by
ending_words_read (Answered denial.None) asks h asked = rw (asks_read asks asked) refl
ending_words_read (Answered (denial.Absent mark)) asks h asked = rw (mark_read mark, asks_read asks asked) refl
ending_words_read (Answered (denial.Expanded mark)) asks h asked = rw (mark_read mark, asks_read asks asked) refl
ending_words_read (Denied mark) asks h asked = rw (mark_read mark, asks_read asks asked) refl
ending_words_read (Foreign owner class rtype) asks h asked =
    let f = fits_foreign owner class rtype h in
    let named = (and_parts (fitting_name owner) (is_u16 class && is_u16 rtype) h).0 in
    rw (name_read owner named, class_read class f.classed, type_read rtype f.typed, asks_read asks asked) refl
ending_words_read Failed asks h asked = rw (asks_read asks asked) refl
ending_words_read Seen asks h asked = rw (asks_read asks asked) refl

pub ending_reads : (e : EndingValue) (asks : List AskRef) → fitting_ending e ≡ true
    → list_all fitting_ask asks ≡ true
    → ending_line (joined (ending_of e asks)) ≡ Some (record { ending = e; excuse = asks })
ending_reads e asks h asked =
    ap ending_words_in (line_words (ending_of e asks) (ending_line_good e asks h asked))
    ∙ ending_words_read e asks h asked
