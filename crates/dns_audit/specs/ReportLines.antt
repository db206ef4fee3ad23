-- The forms of a report's lines (RFC 4035, 4.3 and 5): words with one space between each two. A question's class isn't written: it is
-- IN, as in sessions. Nor is the mark of a record that was told: it has none yet.
use Rattle.std.specs.Prelude.{ℕ, Bool, true, false, List, [], ◌∷◌, codes, Option, Some, option_map, if◌then◌else◌}
use Rattle.std.specs.Prelude as opt
use Rattle.dns_model.specs.declared.proof.Proof.{Proof}
use Rattle.dns_model.specs.declared.proof.Proof.TheVariants.{Indeterminate}
use Rattle.dns_model.specs.declared.section.Section.{Section}
use Rattle.dns_model.specs.declared.denial.Denial.{Denial}
use Rattle.dns_model.specs.declared.denial.Denial.TheVariants.{None, Absent, Expanded}
use Rattle.dns_model.specs.Keys.{bytes_eq}
use Rattle.dns_model.specs.OptionSteps.{◌>>=◌}
use Rattle.dns_model.specs.Records.{Rr}
use Rattle.dns_model.specs.Chains.{LinkValue, Anchored, Matched, KeySet, Signed}
use Rattle.dns_model.specs.Trails.{JudgedSetValue, EndingValue, Answered, Denied, Foreign, Failed, Seen}
use Rattle.dns_text.specs.Words.{name_word_in}
use Rattle.dns_text.specs.Codes.{type_word_in, class_word_in}
use Rattle.dns_session.specs.Lines.{Words, words, after, fixed, single, double, triple, quadruple, question_in}
use Rattle.dns_report.specs.LineWords.{section_word}
use Rattle.dns_audit.specs.ReportValue.{ChainHead, StepHead, StepEnd, GotValue, Code, NoReply}
use Rattle.dns_audit.specs.ReportWords.{u16_in, u32_in, rdata_in, mark_in, section_in, purpose_in, ask_in, origin_in, place_in}
use Rattle.dns_audit.specs.LineParts.{each_in, quintuple, sextuple, first_of, two_of, three_of, six_of}

-- ---- the lines of an answer

-- `dns-report 1`
abbrev pub report_header : List ℕ → Option (Unit {0})
report_header = fixed (codes "dns-report 1")

-- `code N`
abbrev pub code_line : List ℕ → Option ℕ
code_line line = do
  rest ← after (codes "code") (words line)
  number ← single rest
  u16_in number

-- what is denied, with the words after it: `none`, `absent MARK` or `expanded MARK`
abbrev pub marked : {X : Type 0} → (Proof → X) → Words → Option (X × Words)
marked made ws = do
  front ← first_of ws
  mark ← mark_in front.0
  Some (made mark, front.1)

-- what is denied, by its first word and those after it
abbrev pub denial_by : List ℕ → Words → Option (Denial × Words)
denial_by kind ws =
    if bytes_eq kind (codes "none") then Some (None, ws)
    else if bytes_eq kind (codes "absent") then marked Absent ws
    else if bytes_eq kind (codes "expanded") then marked Expanded ws
    else opt.None

-- a value, where no word is left
unfoldable pub whole : {X : Type 0} → X → Words → Option X
whole x [] = Some x
whole x (w ∷ ws) = opt.None

-- `denial none`, `denial absent MARK` or `denial expanded MARK`
abbrev pub denial_line : List ℕ → Option Denial
denial_line line = do
  rest ← after (codes "denial") (words line)
  front ← first_of rest
  read ← denial_by front.0 front.1
  whole read.0 read.1

-- `OWNER CLASS TYPE TTL MARK RDATA`
abbrev pub record_in : List ℕ → List ℕ → List ℕ → List ℕ → List ℕ → List ℕ → Option Rr
record_in name class rtype ttl mark rdata = do
  owner ← name_word_in name
  class ← class_word_in class
  rtype ← type_word_in rtype
  ttl ← u32_in ttl
  proof ← mark_in mark
  rdata ← rdata_in rdata
  Some (record { owner = owner; rtype = rtype; class = class; ttl = ttl; rdata = rdata; proof = proof })

-- `SECTION OWNER CLASS TYPE TTL MARK RDATA`, in this section
abbrev pub record_line : Section → List ℕ → Option Rr
record_line section line = do
  rest ← after (section_word section) (words line)
  fields ← sextuple rest
  record_in fields.0 fields.1 fields.2 fields.3 fields.4 fields.5

-- ---- the lines of chains

-- `chain SECTION COUNT`
abbrev pub chain_line : List ℕ → Option ChainHead
chain_line line = do
  rest ← after (codes "chain") (words line)
  fields ← double rest
  section ← section_in fields.0
  count ← u32_in fields.1
  Some (record { section = section; count = count })

-- `anchored OWNER CLASS KEY`
abbrev pub anchored_in : Words → Option LinkValue
anchored_in ws = do
  fields ← triple ws
  owner ← name_word_in fields.0
  class ← class_word_in fields.1
  key ← rdata_in fields.2
  Some (Anchored owner class key)

-- `matched OWNER CLASS KEY LINK DS`
abbrev pub matched_in : Words → Option LinkValue
matched_in ws = do
  fields ← quintuple ws
  owner ← name_word_in fields.0
  class ← class_word_in fields.1
  key ← rdata_in fields.2
  ds_link ← u32_in fields.3
  ds ← rdata_in fields.4
  Some (Matched owner class key ds_link ds)

-- the number of a link by its word, the key after it, and the words after that
unfoldable pub numbered_key : List ℕ → Words → Option (ℕ × List ℕ × Words)
numbered_key number ws = do
  link ← u32_in number
  front ← first_of ws
  key ← rdata_in front.0
  Some (link, key, front.1)

-- the numbers of links, each before its key
unfoldable pub numbered_in : Words → Option (List ℕ × List (List ℕ))
numbered_in [] = Some ([], [])
numbered_in (number ∷ []) = opt.None
numbered_in (number ∷ word ∷ ws) = do
  first ← numbered_key number (word ∷ ws)
  others ← numbered_in ws
  Some (first.0 ∷ others.0, first.1 ∷ others.1)

-- a key set by its owner and class; behind these stand, key by key, the number of a link and the key
abbrev pub key_set_in : Words → Option LinkValue
key_set_in ws = do
  fields ← two_of ws
  owner ← name_word_in fields.0
  class ← class_word_in fields.1
  keys ← numbered_in fields.2
  Some (KeySet owner class keys.1 keys.0)

-- a signed set by owner, class and type; then the link of its key, this key, the signature, and the set's rdatas
abbrev pub signed_in : Words → Option LinkValue
signed_in ws = do
  fields ← six_of ws
  owner ← name_word_in fields.0
  class ← class_word_in fields.1
  rtype ← type_word_in fields.2
  key_link ← u32_in fields.3
  key ← rdata_in fields.4
  sig ← rdata_in fields.5
  rdatas ← each_in rdata_in fields.6
  Some (Signed owner class rtype rdatas sig key_link key)

-- a link, by its first word and those after it
unfoldable pub link_by : List ℕ → Words → Option LinkValue
link_by kind ws =
    if bytes_eq kind (codes "anchored") then anchored_in ws
    else if bytes_eq kind (codes "matched") then matched_in ws
    else if bytes_eq kind (codes "keyset") then key_set_in ws
    else if bytes_eq kind (codes "signed") then signed_in ws
    else opt.None

-- the line of a link
abbrev pub link_line : List ℕ → Option LinkValue
link_line line = first_of (words line) >>= λ front. link_by front.0 front.1

-- ---- the lines of a trail

-- `trail COUNT`
abbrev pub trail_line : List ℕ → Option ℕ
trail_line line = do
  rest ← after (codes "trail") (words line)
  number ← single rest
  u32_in number

-- `DEPTH judged NAME TYPE` or `DEPTH ns NAME TYPE`
abbrev pub step_in : List ℕ → List ℕ → List ℕ → List ℕ → Option StepHead
step_in depth purpose name rtype = do
  depth ← u16_in depth
  judged ← purpose_in purpose
  query ← question_in name rtype
  Some (record { depth = depth; judged = judged; query = query })

-- `step DEPTH judged NAME TYPE` or `step DEPTH ns NAME TYPE`
abbrev pub step_line : List ℕ → Option StepHead
step_line line = do
  rest ← after (codes "step") (words line)
  fields ← quadruple rest
  step_in fields.0 fields.1 fields.2 fields.3

-- a code, and whether it comes with `empty`
abbrev pub got_code : Bool → List ℕ → Option GotValue
got_code empty word = option_map (λ code. Code code empty) (u16_in word)

-- a code alone, or that there was no reply
abbrev pub got_one : List ℕ → Option GotValue
got_one word = if bytes_eq word (codes "fault") then Some NoReply else got_code false word

-- a code with `empty` behind it
abbrev pub got_empty : List ℕ → List ℕ → Option GotValue
got_empty word next = if bytes_eq next (codes "empty") then got_code true word else opt.None

-- what was heard of a reply, by a first word and those after it
unfoldable pub got_by : List ℕ → Words → Option GotValue
got_by word [] = got_one word
got_by word (next ∷ ws) = single (next ∷ ws) >>= got_empty word

-- what was heard of a reply, by one or two words
abbrev pub got_in : Words → Option GotValue
got_in ws = first_of ws >>= λ front. got_by front.0 front.1

-- `got CODE`, `got CODE empty` or `got fault`
abbrev pub got_line : List ℕ → Option GotValue
got_line line = after (codes "got") (words line) >>= got_in

-- `OWNER CLASS TYPE TTL RDATA`, without a mark
abbrev pub unmarked_in : List ℕ → List ℕ → List ℕ → List ℕ → List ℕ → Option Rr
unmarked_in name class rtype ttl rdata = do
  owner ← name_word_in name
  class ← class_word_in class
  rtype ← type_word_in rtype
  ttl ← u32_in ttl
  rdata ← rdata_in rdata
  Some (record { owner = owner; rtype = rtype; class = class; ttl = ttl; rdata = rdata; proof = Indeterminate })

-- the words after `told` and the section's word
abbrev pub after_told : Section → List ℕ → Option Words
after_told section line = after (codes "told") (words line) >>= after (section_word section)

-- `told SECTION OWNER CLASS TYPE TTL RDATA`, in this section
abbrev pub told_line : Section → List ℕ → Option Rr
told_line section line = do
  rest ← after_told section line
  fields ← quintuple rest
  unmarked_in fields.0 fields.1 fields.2 fields.3 fields.4

-- `SECTION OWNER TYPE MARK ORIGIN SIG`, and each ask
abbrev pub set_in : Words → Option JudgedSetValue
set_in ws = do
  fields ← six_of ws
  section ← section_in fields.0
  owner ← name_word_in fields.1
  rtype ← type_word_in fields.2
  mark ← mark_in fields.3
  origin ← origin_in fields.4
  sig ← place_in fields.5
  asked ← each_in ask_in fields.6
  Some (record { section = section; owner = owner; rtype = rtype; mark = mark; origin = origin; sig = sig; asked = asked })

-- `set SECTION OWNER TYPE MARK ORIGIN SIG`, and each ask
abbrev pub set_line : List ℕ → Option JudgedSetValue
set_line line = after (codes "set") (words line) >>= set_in

-- how a step ended at a record of another class, with the words after it: `OWNER CLASS TYPE`
abbrev pub foreign_in : Words → Option (EndingValue × Words)
foreign_in ws = do
  fields ← three_of ws
  owner ← name_word_in fields.0
  class ← class_word_in fields.1
  rtype ← type_word_in fields.2
  Some (Foreign owner class rtype, fields.3)

-- how a step ended without such a record, by its first word and those after it
unfoldable pub plain_by : List ℕ → Words → Option (EndingValue × Words)
plain_by kind ws =
    if bytes_eq kind (codes "denied") then marked Denied ws
    else if bytes_eq kind (codes "failed") then Some (Failed, ws)
    else if bytes_eq kind (codes "seen") then Some (Seen, ws)
    else option_map (λ (read : Denial × Words). (Answered read.0, read.1)) (denial_by kind ws)

-- how a step ended, by its first word and those after it
unfoldable pub ending_by : List ℕ → Words → Option (EndingValue × Words)
ending_by kind ws = if bytes_eq kind (codes "foreign") then foreign_in ws else plain_by kind ws

-- how a step ended, and each ask on which that stands
abbrev pub ending_in : Words → Option StepEnd
ending_in ws = do
  front ← first_of ws
  read ← ending_by front.0 front.1
  excuse ← each_in ask_in read.1
  Some (record { ending = read.0; excuse = excuse })

-- `ending`, how the step ended in a word or some, and the asks that this rests on
abbrev pub ending_line : List ℕ → Option StepEnd
ending_line line = after (codes "ending") (words line) >>= ending_in
