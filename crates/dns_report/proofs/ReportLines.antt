-- A report as its lines.
use Rattle.std.proofs.Common.{◌≡◌, ℕ, List, [], ◌∷◌, ◌++◌, map, length, codes, refl, sym, ap, ◌∙◌}
use Rattle.std.specs.Fmt.{decimal}
use Rattle.std.specs.List.{flat_map}
use Rattle.std.proofs.lemmas.List.{append_assoc}
use Rattle.dns_model.specs.declared.section.Section.{Section}
use Rattle.dns_model.specs.declared.section.Section.TheVariants.{Answer, Authority, Additional}
use Rattle.dns_model.specs.NameText.{printed}
use Rattle.dns_model.specs.Records.{Rr}
use Rattle.dns_record.specs.Words.{type_word, class_word}
use Rattle.dns_text.specs.Words.{octets_word}
use Rattle.dns_report.specs.LineWords.{mark_word, section_word, denial_words}
use Rattle.dns_report.specs.View.{Shown, Anchored, Matched, KeySet, Signed, ChainView, View}
use Rattle.dns_report.specs.TrailLines.{trail_text}
use Rattle.dns_report.specs.Report.{key_words, record_line, section_text, link_line, chain_text, records_text, head_text, view_body, view_text}
use Rattle.dns_report.specs.WrittenLines.{report_header, code_line, denial_line, chain_line, report_end}
use Rattle.dns_text.proofs.LineShapes.{Line, text_of}
use Rattle.dns_report.proofs.LineBlocks.{Block, blocks, one_line, blocks_are}
use Rattle.dns_report.proofs.StepLines.{trail_lines, trail_is}

abbrev pub record_of : Section → Rr → Line
record_of section r = (
  section_word section,
  printed r.owner ∷ class_word r.class ∷ type_word r.rtype ∷ decimal r.ttl ∷ mark_word
      r.proof ∷ octets_word r.rdata ∷ [],
)

-- the lines of a section's records, and those that follow
abbrev pub section_lines : Section → List Rr → List Line → List Line
section_lines section records more = blocks (one_line (record_of section)) records more

abbrev pub link_of : Shown → Line
link_of (Anchored owner class key) = (codes "anchored", printed owner ∷ class_word class ∷ octets_word key ∷ [])
link_of (Matched owner class key ds_link ds) =
    (codes "matched", printed owner ∷ class_word class ∷ octets_word key ∷ decimal ds_link ∷ octets_word ds ∷ [])
link_of (KeySet owner class keys) = (codes "keyset", printed owner ∷ class_word class ∷ key_words keys)
link_of (Signed owner class rtype rdatas sig key_link key) = (
  codes "signed",
  printed owner ∷ class_word class ∷ type_word rtype ∷ decimal key_link ∷ octets_word key ∷ octets_word
      sig ∷ map octets_word rdatas,
)

abbrev pub front_of : ChainView → Line
front_of chain = (codes "chain", section_word chain.section ∷ decimal (length chain.links) ∷ [])

-- the lines of a chain, and those that follow
abbrev pub chain_lines : Block ChainView
chain_lines chain more = front_of chain ∷ blocks (one_line link_of) chain.links more

abbrev pub last : List Line
last = (codes "end", []) ∷ []

-- the lines of a view after its records
abbrev pub later_lines : View → List Line
later_lines v = blocks chain_lines v.chains (trail_lines v.trail last)

abbrev pub lines_of : View → List Line
lines_of v =
    (codes "dns-report", codes "1" ∷ []) ∷ (codes "code", decimal v.code ∷ []) ∷ (codes "denial", denial_words v.denial)
    ∷ section_lines Answer v.answers (section_lines Authority v.authorities (section_lines Additional v.additionals (later_lines v)))

record_is : (section : Section) (r : Rr) (more : List Line)
    → flat_map text_of (one_line (record_of section) r more) ≡ record_line section r ++ flat_map text_of more
record_is section r more = refl

records_are : (section : Section) (rs : List Rr) (more : List Line)
    → flat_map text_of (section_lines section rs more) ≡ section_text section rs ++ flat_map text_of more
records_are section rs more =
    blocks_are (one_line (record_of section)) (record_line section) (record_is section) rs more

link_is : (l : Shown) (more : List Line)
    → flat_map text_of (one_line link_of l more) ≡ link_line l ++ flat_map text_of more
link_is (Anchored owner class key) more = refl
link_is (Matched owner class key ds_link ds) more = refl
link_is (KeySet owner class keys) more = refl
link_is (Signed owner class rtype rdatas sig key_link key) more = refl

chain_is : (chain : ChainView) (more : List Line)
    → flat_map text_of (chain_lines chain more) ≡ chain_text chain ++ flat_map text_of more
chain_is chain more =
    ap (λ t. chain_line chain ++ t) (blocks_are (one_line link_of) link_line link_is chain.links more)
    ∙ sym (append_assoc (chain_line chain) (flat_map link_line chain.links) (flat_map text_of more))

-- the text of lines that follow the records
later_is : (v : View)
    → flat_map text_of (later_lines v) ≡ flat_map chain_text v.chains ++ (trail_text v.trail ++ report_end)
later_is v =
    blocks_are chain_lines chain_text chain_is v.chains (trail_lines v.trail last)
    ∙ ap (λ t. flat_map chain_text v.chains ++ t) (trail_is v.trail last)

joined_alike : (h c d a u n k s e : List ℕ)
    → h ++ (c ++ (d ++ (a ++ (u ++ (n ++ (k ++ (s ++ e))))))) ≡ (((((h ++ c) ++ d) ++ ((a ++ u) ++ n)) ++ k) ++ s) ++ e
joined_alike h c d a u n k s e =
    rw (
      append_assoc ((((h ++ c) ++ d) ++ ((a ++ u) ++ n)) ++ k) s e,
      append_assoc (((h ++ c) ++ d) ++ ((a ++ u) ++ n)) k (s ++ e),
      append_assoc ((h ++ c) ++ d) ((a ++ u) ++ n) (k ++ (s ++ e)),
      append_assoc (h ++ c) d (((a ++ u) ++ n) ++ (k ++ (s ++ e))),
      append_assoc h c (d ++ (((a ++ u) ++ n) ++ (k ++ (s ++ e)))),
      append_assoc (a ++ u) n (k ++ (s ++ e)),
      append_assoc a u (n ++ (k ++ (s ++ e))),
    ) refl

-- the text of a view is that of its lines
pub text_is_lines : (v : View) → flat_map text_of (lines_of v) ≡ view_text v
unfolding view_text view_body head_text records_text
text_is_lines v =
    let answers = section_text Answer v.answers in
    let authorities = section_text Authority v.authorities in
    let additionals = section_text Additional v.additionals in
    let third = records_are Additional v.additionals (later_lines v) ∙ ap (λ t. additionals ++ t) (later_is v) in
    let second =
    records_are Authority v.authorities (section_lines Additional v.additionals (later_lines v))
    ∙ ap (λ t. authorities ++ t) third in
    let first =
    records_are Answer v.answers
    (section_lines Authority v.authorities (section_lines Additional v.additionals (later_lines v)))
    ∙ ap (λ t. answers ++ t) second in
    ap (λ t. report_header ++ (code_line v.code ++ (denial_line v.denial ++ t))) first
    ∙ joined_alike report_header (code_line v.code) (denial_line v.denial) answers authorities additionals
    (flat_map chain_text v.chains) (trail_text v.trail) report_end
