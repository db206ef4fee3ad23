-- The lines of a trail (RFC 4035, 4.3 and 5): for each step what was asked, what was heard, how each set was judged, and how it ended.
use Rattle.std.specs.Prelude.{ℕ, Bool, true, false, List, [], ◌∷◌, ◌++◌, map, length, codes, Option, None, Some}
use Rattle.std.specs.List.{flat_map}
use Rattle.std.specs.Fmt.{decimal}
use Rattle.dns_model.specs.declared.section.Section.{Section}
use Rattle.dns_model.specs.declared.section.Section.TheVariants.{Answer, Authority, Additional}
use Rattle.dns_model.specs.declared.trail.AskRef.{AskRef}
use Rattle.dns_model.specs.declared.trail.AskRef.TheVariants.{Step, TooDeep, TooMany}
use Rattle.dns_model.specs.declared.trail.MarkOrigin.{MarkOrigin}
use Rattle.dns_model.specs.declared.trail.MarkOrigin.TheVariants.{Table, Repeat, Cache}
use Rattle.dns_model.specs.NameText.{printed}
use Rattle.dns_model.specs.Trails.{JudgedSetValue, EndingValue, Answered, Denied, Foreign, Failed, Seen}
use Rattle.dns_record.specs.Words.{type_word, class_word}
use Rattle.dns_text.specs.Words.{octets_word}
use Rattle.dns_text.specs.Lines.{Words, line}
use Rattle.dns_report.specs.LineWords.{mark_word, section_word, denial_words}
use Rattle.dns_report.specs.TrailView.{ToldRecord, HeardView, Records, Fault, StepView}

-- what a reply is asked for: to be judged, or only to see the name servers that it tells
abbrev pub purpose_word : Bool → List ℕ
purpose_word true = codes "judged"
purpose_word false = codes "ns"

-- a word where a reply said that there are no records
abbrev pub empty_words : Bool → Words
empty_words true = codes "empty" ∷ []
empty_words false = []

-- the words of a reply: its code, or that it was a fault
abbrev pub got_words : HeardView → Words
got_words (Records code empty answers authorities additionals) = decimal code ∷ empty_words empty
got_words Fault = codes "fault" ∷ []

-- the line of a record that was told
abbrev pub told_line : Section → ToldRecord → List ℕ
told_line section r =
    line (codes "told")
    (section_word section ∷ printed r.owner ∷ class_word r.class ∷ type_word r.rtype ∷ decimal r.ttl ∷ octets_word r.rdata ∷ [])

-- a line for each record that was told, in the order of the sections; a fault told none
unfoldable pub told_text : HeardView → List ℕ
told_text (Records code empty answers authorities additionals) =
    flat_map (told_line Answer) answers ++ flat_map (told_line Authority) authorities ++ flat_map (told_line Additional) additionals
told_text Fault = []

-- the word of an ask: its step's number, or why it wasn't made
abbrev pub ask_word : AskRef → List ℕ
ask_word (Step number) = decimal number
ask_word TooDeep = codes "deep"
ask_word TooMany = codes "many"

-- the word of where a mark comes from
abbrev pub origin_word : MarkOrigin → List ℕ
origin_word Table = codes "table"
origin_word (Repeat number) = codes "repeat-" ++ decimal number
origin_word Cache = codes "cache"

-- the word of the place of the signature that decided
abbrev pub place_word : Option ℕ → List ℕ
place_word None = codes "-"
place_word (Some place) = decimal place

-- the line of a set: its mark, and the asks on which that stands
abbrev pub set_line : JudgedSetValue → List ℕ
set_line set =
    line (codes "set")
    (section_word set.section ∷ printed set.owner ∷ type_word set.rtype ∷ mark_word set.mark ∷ origin_word set.origin ∷ place_word set.sig
    ∷ map ask_word set.asked)

-- the words of an ending
abbrev pub ending_words : EndingValue → Words
ending_words (Answered denial) = denial_words denial
ending_words (Denied mark) = codes "denied" ∷ mark_word mark ∷ []
ending_words (Foreign owner class rtype) = codes "foreign" ∷ printed owner ∷ class_word class ∷ type_word rtype ∷ []
ending_words Failed = codes "failed" ∷ []
ending_words Seen = codes "seen" ∷ []

-- the lines of a step; the last has its ending, and the asks on which that stands
unfoldable pub step_text : StepView → List ℕ
step_text step =
    line (codes "step") (decimal step.depth ∷ purpose_word step.judged ∷ printed step.owner ∷ type_word step.rtype ∷ [])
    ++ line (codes "got") (got_words step.reply) ++ told_text step.reply ++ flat_map set_line step.sets
    ++ line (codes "ending") (ending_words step.ending ++ map ask_word step.excuse)

-- the lines of a trail, where it is shown, after one with their number
abbrev pub trail_text : Option (List StepView) → List ℕ
trail_text None = []
trail_text (Some steps) = line (codes "trail") (decimal (length steps) ∷ []) ++ flat_map step_text steps
