-- What was asked for an answer: each query with what it was answered, and how long that took.
use Rattle.std.specs.Prelude.{ℕ, List, [], ◌∷◌, ◌++◌, codes, length, Ok, Err}
use Rattle.std.specs.Fmt.{decimal}
use Rattle.std.specs.List.{flat_map}
use Rattle.dns_handle.specs.Errors as seen
use Rattle.dns_handle.specs.Errors.{Reply, ErrorValue}
use Rattle.dns_model.specs.Records.{MessageValue}
use Rattle.dns_model.specs.declared.section.Section.{Section}
use Rattle.dns_model.specs.declared.section.Section.TheVariants.{Answer, Authority, Additional}
use Rattle.dns_report.specs.Faults.{fault_text}
use Rattle.dns_report.specs.LineWords.{section_word}
use Rattle.dns_query_handle.specs.Notes.{NoteValue}
use Rattle.dns_query_shown.specs.ChainTrees.{set_words}

-- how many records a section has
unfoldable pub counted : Section → ℕ → List ℕ
counted section count = codes ", " ++ (section_word section ++ (32 ∷ decimal count))

-- a response by its code, and how many records its sections have
unfoldable pub message_words : MessageValue → List ℕ
message_words m =
    codes "code " ++ (decimal m.response_code ++ (counted Answer (length m.answers) ++ (counted Authority (length m.authorities)
    ++ counted Additional (length m.additionals))))

-- what a query was answered, and the line's end; an error by its line, which has one
unfoldable pub heard_text : Reply → List ℕ
heard_text (Ok response) = message_words response.message ++ 10 ∷ []
heard_text (Err seen.NoMemory) = codes "fault memory\n"
heard_text (Err error) = fault_text error

-- `NAME TYPE, N ms: ` and what came
abbrev pub ask_line : NoteValue → List ℕ
ask_line n =
    set_words n.question.owner n.question.rtype ++ (codes ", " ++ (decimal n.elapsed ++ (codes " ms: " ++ heard_text n.reply)))

-- a line for each query, in the order in which they were sent
abbrev pub asks_text : List NoteValue → List ℕ
asks_text notes = flat_map ask_line notes
