-- The text of a report on an answer: its code, what it denies, its records with their marks, the chains of its Secure sets, and its
-- trail where that is asked for.
use Rattle.std.specs.Prelude.{ℕ, List, [], ◌∷◌, ◌++◌, map, length, codes}
use Rattle.std.specs.List.{flat_map}
use Rattle.std.specs.Fmt.{decimal}
use Rattle.dns_model.specs.declared.section.Section.{Section}
use Rattle.dns_model.specs.declared.section.Section.TheVariants.{Answer, Authority, Additional}
use Rattle.dns_model.specs.declared.denial.Denial.{Denial}
use Rattle.dns_model.specs.NameText.{printed}
use Rattle.dns_model.specs.Records.{Rr}
use Rattle.dns_model.specs.SoundAnswers.{ResponseValue}
use Rattle.dns_record.specs.Words.{type_word, class_word}
use Rattle.dns_text.specs.Words.{octets_word}
use Rattle.dns_report.specs.declared.parts.Parts.{Parts}
use Rattle.dns_text.specs.Lines.{Words, line}
use Rattle.dns_report.specs.LineWords.{mark_word, section_word, denial_words}
use Rattle.dns_report.specs.TrailLines.{trail_text}
use Rattle.dns_report.specs.View.{Numbered, Shown, Anchored, Matched, KeySet, Signed, ChainView, View, view_of}

-- the line of a record, which begins with its section
abbrev pub record_line : Section → Rr → List ℕ
record_line section r =
    line (section_word section)
    (printed r.owner ∷ class_word r.class ∷ type_word r.rtype ∷ decimal r.ttl ∷ mark_word r.proof ∷ octets_word r.rdata ∷ [])

-- a line for each record, in order
abbrev pub section_text : Section → List Rr → List ℕ
section_text section records = flat_map (record_line section) records

-- for each key of a set the number of the link that shows it, and the key
unfoldable pub key_words : List Numbered → Words
key_words [] = []
key_words (pair ∷ pairs) = decimal pair.0 ∷ octets_word pair.1 ∷ key_words pairs

-- the line of a link
abbrev pub link_line : Shown → List ℕ
link_line (Anchored owner class key) = line (codes "anchored") (printed owner ∷ class_word class ∷ octets_word key ∷ [])
link_line (Matched owner class key ds_link ds) =
    line (codes "matched") (printed owner ∷ class_word class ∷ octets_word key ∷ decimal ds_link ∷ octets_word ds ∷ [])
link_line (KeySet owner class keys) = line (codes "keyset") (printed owner ∷ class_word class ∷ key_words keys)
link_line (Signed owner class rtype rdatas sig key_link key) =
    line (codes "signed")
    (printed owner ∷ class_word class ∷ type_word rtype ∷ decimal key_link ∷ octets_word key ∷ octets_word sig ∷ map octets_word rdatas)

-- a chain's line, with the section of its set and how many links follow, and one for each of them
abbrev pub chain_text : ChainView → List ℕ
chain_text chain =
    line (codes "chain") (section_word chain.section ∷ decimal (length chain.links) ∷ []) ++ flat_map link_line chain.links

-- the lines of all sections' records, in order
unfoldable pub records_text : List Rr → List Rr → List Rr → List ℕ
records_text answers authorities additionals =
    section_text Answer answers ++ section_text Authority authorities ++ section_text Additional additionals

-- the lines before the records: the form and its version, the code, and what is denied
unfoldable pub head_text : ℕ → Denial → List ℕ
head_text code denial =
    line (codes "dns-report") (codes "1" ∷ []) ++ line (codes "code") (decimal code ∷ []) ++ line (codes "denial") (denial_words denial)

-- a report without its last line
unfoldable pub view_body : View → List ℕ
view_body v =
    head_text v.code v.denial ++ records_text v.answers v.authorities v.additionals ++ flat_map chain_text v.chains ++ trail_text v.trail

-- the report of a view
unfoldable pub view_text : View → List ℕ
view_text v = view_body v ++ line (codes "end") []

-- the report on an answer, with the trail or without, is that of its view
unfoldable pub report_text : Parts → ResponseValue → List ℕ
report_text shows answer = view_text (view_of shows answer)
