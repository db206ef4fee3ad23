-- For private functions of this crate only: the line of a record of either kind, the records of three sections, and one chain.
use Rattle.std.specs.Prelude.{ℕ, List, Option, Result}
use Rattle.dns_model.specs.ResultSteps.{◌>>=◌}
use Rattle.dns_model.specs.SoundAnswers.{ChainValue}
use Rattle.dns_session.specs.LinePlaces.{Place, one, many}
use Rattle.dns_model.specs.declared.section.Section.{Section}
use Rattle.dns_model.specs.declared.section.Section.TheVariants.{Answer, Authority, Additional}
use Rattle.dns_model.specs.Records.{Rr}
use Rattle.dns_audit.specs.declared.records.RecordKind.{RecordKind}
use Rattle.dns_audit.specs.declared.records.RecordKind.TheVariants.{Marked, Told}
use Rattle.dns_audit.specs.ReportLines.{record_line, told_line, chain_line}
use Rattle.dns_audit.specs.ReportGrammar.{chain_after}

abbrev pub line_of : RecordKind → Section → List ℕ → Option Rr
line_of Marked section = record_line section
line_of Told section = told_line section

-- the records of three sections whose lines have these forms, and the place after the last
abbrev pub sections_at : (Section → List ℕ → Option Rr) → Place → List Rr × List Rr × List Rr × Place
sections_at form at =
    let answers = many (form Answer) at in
    let authorities = many (form Authority) answers.1 in
    let additionals = many (form Additional) authorities.1 in
    (answers.0, authorities.0, additionals.0, additionals.1)

-- a chain, and the place after it; a line that begins none is bad
abbrev pub one_chain : Place → Result (ChainValue × Place) ℕ
one_chain at = one chain_line at >>= λ head. chain_after head.0 head.1
