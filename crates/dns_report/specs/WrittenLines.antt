-- For private functions of this crate only: lines of a report that are written one at a time.
use Rattle.std.specs.Prelude.{ℕ, List, [], ◌∷◌, ◌++◌, map, length, codes}
use Rattle.std.specs.Fmt.{decimal}
use Rattle.dns_model.specs.declared.denial.Denial.{Denial}
use Rattle.dns_model.specs.declared.trail.AskRef.{AskRef}
use Rattle.dns_model.specs.Trails.{EndingValue}
use Rattle.dns_text.specs.Lines.{line}
use Rattle.dns_report.specs.LineWords.{section_word, denial_words}
use Rattle.dns_report.specs.TrailView.{StepView, HeardView}
use Rattle.dns_report.specs.TrailLines.{ask_word, ending_words, purpose_word, got_words}
use Rattle.dns_report.specs.View.{ChainView}
use Rattle.dns_model.specs.NameText.{printed}
use Rattle.dns_record.specs.Words.{type_word}

-- the first line names the form and its version
abbrev pub report_header : List ℕ
report_header = line (codes "dns-report") (codes "1" ∷ [])

-- the line of the response's code
abbrev pub code_line : ℕ → List ℕ
code_line code = line (codes "code") (decimal code ∷ [])

-- the line of what is denied
abbrev pub denial_line : Denial → List ℕ
denial_line denial = line (codes "denial") (denial_words denial)

-- the line before a chain's links: the section of its set, and how many links follow
abbrev pub chain_line : ChainView → List ℕ
chain_line chain = line (codes "chain") (section_word chain.section ∷ decimal (length chain.links) ∷ [])

-- the last line
abbrev pub report_end : List ℕ
report_end = line (codes "end") []

-- the line that begins a trail: how many steps follow
abbrev pub count_line : List StepView → List ℕ
count_line steps = line (codes "trail") (decimal (length steps) ∷ [])

-- the line that ends a step: its ending, and the asks on which that stands
abbrev pub ending_line : EndingValue → List AskRef → List ℕ
ending_line ending excuse = line (codes "ending") (ending_words ending ++ map ask_word excuse)

-- the line that begins a step
abbrev pub step_line : StepView → List ℕ
step_line step =
    line (codes "step") (decimal step.depth ∷ purpose_word step.judged ∷ printed step.owner ∷ type_word step.rtype ∷ [])

-- the line of a reply: its code, or that it was a fault
abbrev pub got_line : HeardView → List ℕ
got_line reply = line (codes "got") (got_words reply)
