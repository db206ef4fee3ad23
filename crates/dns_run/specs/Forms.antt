-- The words that the program takes, and its fixed texts.
use Rattle.std.specs.Prelude.{ℕ, ◌≡◌, ◌≤◌, Bool, true, false, not, List, [], ◌∷◌, ◌&&◌, nat_le, map, codes, Vec, Option, None, Some, if◌then◌else◌}
use Rattle.std.specs.Option.{option_map, option_map_or, option_and_then}
use Rattle.dns_model.specs.Keys.{bytes_eq}
use Rattle.dns_model.specs.OptionSteps.{◌>>=◌}
use Rattle.dns_handle.specs.declared.protocol.Protocol.{Protocol}
use Rattle.dns_handle.specs.declared.protocol.Protocol.TheVariants.{Udp, Tcp}
use Rattle.dns_asking.specs.Addresses.{address_in}
use Rattle.dns_asking.specs.declared.address.ServerAddress.{ServerAddress}
use Rattle.dns_text.specs.Words.{decimal_in}
use Rattle.dns_report.specs.declared.parts.Parts.{Parts}
use Rattle.dns_report.specs.declared.parts.Parts.TheVariants.{Answer, WithTrail}
use Rattle.dns_run.specs.declared.form.Form.{Form}
use Rattle.dns_run.specs.declared.form.Form.TheVariants.{Validate, Task, Bench, Ask, Help, Version}
use Rattle.dns_run.specs.declared.task.Task.{Task as TaskKind}
use Rattle.dns_run.specs.declared.task.Task.TheVariants.{Audit, Questions, Roll, Deny, Explain}
use Rattle.dns_session_lookup.specs.declared.verification.Verification.{Verification}
use Rattle.dns_session_lookup.specs.declared.verification.Verification.TheVariants.{ByList, ByArithmetic}
use Rattle.dns_io.specs.Runs.{Asked, AnInput, NoInput, FixedText}

-- how signatures are verified, by the first word of a call to answer a session
abbrev pub verified_by : List ℕ → Option Verification
verified_by word =
    if bytes_eq word (codes "validate") then Some ByList
    else if bytes_eq word (codes "verify") then Some ByArithmetic
    else None

-- the same, with how much the report shows, where words ask to answer a session
abbrev pub shown_by : List (List ℕ) → Option (Verification × Parts)
shown_by (word ∷ []) = option_map (λ how. (how, Answer)) (verified_by word)
shown_by (word ∷ next ∷ []) =
    if bytes_eq next (codes "trail") then option_map (λ how. (how, WithTrail)) (verified_by word) else None
shown_by _ = None

-- what else one word asks for
abbrev pub form_named : List ℕ → Option Form
form_named word =
    if bytes_eq word (codes "audit") then Some (Task Audit)
    else if bytes_eq word (codes "questions") then Some (Task Questions)
    else if bytes_eq word (codes "roll") then Some (Task Roll)
    else if bytes_eq word (codes "deny") then Some (Task Deny)
    else if bytes_eq word (codes "explain") then Some (Task (Explain ByList))
    else if bytes_eq word (codes "--help") then Some Help
    else if bytes_eq word (codes "--version") then Some Version
    else None

-- how many nested zones a word says: from 1 to 100, in digits without a zero before others
abbrev pub zones_in : List ℕ → Option ℕ
zones_in word = option_and_then (λ n. if nat_le 1 n && nat_le n 100 then Some n else None) (decimal_in 255 word)

abbrev pub bench_form : Option ℕ → Option Form
bench_form zones = option_map (λ n. Bench n) zones

-- what else two words ask for
abbrev pub form_of_two : List ℕ → List ℕ → Option Form
form_of_two word next =
    if bytes_eq word (codes "bench") then bench_form (zones_in next)
    else if bytes_eq word (codes "explain") && bytes_eq next (codes "verify") then Some (Task (Explain ByArithmetic))
    else None

-- what carries messages to a server
abbrev pub protocol_in : List ℕ → Option Protocol
protocol_in word =
    if bytes_eq word (codes "udp") then Some Udp else if bytes_eq word (codes "tcp") then Some Tcp else None

-- to ask a server at an address, and to explain the answer or not
abbrev pub ask_form : Verification → Bool → List ℕ → List ℕ → Option Form
ask_form how explains carried address = do
  protocol ← protocol_in carried
  server ← address_in address
  Some (Ask how explains protocol server)

-- what three words ask for
abbrev pub form_of_three : List ℕ → List ℕ → List ℕ → Option Form
form_of_three word carried address = if bytes_eq word (codes "ask") then ask_form ByList false carried address else None

-- what four words ask for
abbrev pub form_of_four : List ℕ → List ℕ → List ℕ → List ℕ → Option Form
form_of_four word next carried address =
    if bytes_eq word (codes "ask") && bytes_eq next (codes "verify") then ask_form ByArithmetic false carried address
    else if bytes_eq word (codes "ask") && bytes_eq next (codes "explain") then ask_form ByList true carried address
    else None

-- what five words ask for
abbrev pub form_of_five : List ℕ → List ℕ → List ℕ → List ℕ → List ℕ → Option Form
form_of_five word next third carried address =
    if bytes_eq word (codes "ask") && bytes_eq next (codes "explain") && bytes_eq third (codes "verify")
    then ask_form ByArithmetic true carried address
    else None

-- what words ask for besides the answer to a session
abbrev pub other_form : List (List ℕ) → Option Form
other_form (word ∷ []) = form_named word
other_form (word ∷ next ∷ []) = form_of_two word next
other_form (word ∷ carried ∷ address ∷ []) = form_of_three word carried address
other_form (word ∷ next ∷ carried ∷ address ∷ []) = form_of_four word next carried address
other_form (word ∷ next ∷ third ∷ carried ∷ address ∷ []) = form_of_five word next third carried address
other_form _ = None

-- what words ask for
abbrev pub form_in : List (List ℕ) → Option Form
form_in words = option_map_or (λ asked. Some (Validate asked.0 asked.1)) (shown_by words) (other_form words)

-- nested zones are asked for by a number from 1 to 100
abbrev pub IsWithin : Option Form → Type 0
IsWithin (Some (Bench n)) = (1 ≤ n) × (n ≤ 100)
IsWithin _ = Unit {0}

-- what the words of a call ask for
abbrev pub asked_form : {Z : Type 0} → List (Vec ℕ Z) → Option Form
asked_form words = form_in (map (λ w. w.items) words)

-- a fact of how signatures are verified, and of how much the report shows, where the words ask to answer a session
abbrev pub IfValidates : {Z : Type 0} → List (Vec ℕ Z) → (Verification → Parts → Type 0) → Type 0
IfValidates words Fact =
    (how : Verification) (shows : Parts) → shown_by (map (λ w. w.items) words) ≡ Some (how, shows) → Fact how shows

-- a fact of the task, where the words ask for one
abbrev pub IfTask : {Z : Type 0} → List (Vec ℕ Z) → (TaskKind → Type 0) → Type 0
IfTask words Fact = (task : TaskKind) → asked_form words ≡ Some (Task task) → Fact task

-- a fact of how many zones are nested, where the words ask for a lookup below them
abbrev pub IfBench : {Z : Type 0} → List (Vec ℕ Z) → (ℕ → Type 0) → Type 0
IfBench words Fact = (n : ℕ) → asked_form words ≡ Some (Bench n) → Fact n

-- a fact of how signatures are verified, of whether the answer is explained, of the server, and of what carries messages to it, where
-- the words ask it
abbrev pub IfAsks : {Z : Type 0} → List (Vec ℕ Z) → (Verification → Bool → Protocol → ServerAddress → Type 0) → Type 0
IfAsks words Fact =
    (how : Verification) (explains : Bool) (protocol : Protocol) (server : ServerAddress)
    → asked_form words ≡ Some (Ask how explains protocol server) → Fact how explains protocol server

abbrev pub asks_server : Option Form → Bool
asks_server (Some (Ask how explains protocol server)) = true
asks_server _ = false

-- a fact, where the words ask no server
abbrev pub IfAsksNone : {Z : Type 0} → List (Vec ℕ Z) → Type 0 → Type 0
IfAsksNone words Fact = asks_server (asked_form words) ≡ false → Fact

-- a text that explains has other lines beside that of its error; and an input with questions behind its session is none
abbrev pub goes_further : TaskKind → Bool
goes_further (Explain how) = true
goes_further Deny = true
goes_further _ = false

abbrev pub tells_fault : Option Form → Bool
tells_fault (Some (Ask how explains protocol server)) = false
tells_fault (Some (Task task)) = not (goes_further task)
tells_fault _ = true

-- a fact, where the words ask no server, no explanation and no denials
abbrev pub IfTellsFault : {Z : Type 0} → List (Vec ℕ Z) → Type 0 → Type 0
IfTellsFault words Fact = tells_fault (asked_form words) ≡ true → Fact

-- an input to work on, work without one, or else a text that is always the same
abbrev pub form_asks : Option Form → Asked
form_asks (Some (Validate how shows)) = AnInput
form_asks (Some (Task task)) = AnInput
form_asks (Some (Bench n)) = NoInput
form_asks (Some (Ask how explains protocol server)) = AnInput
form_asks _ = FixedText

abbrev pub words_ask : {Z : Type 0} → List (Vec ℕ Z) → Asked
words_ask words = form_asks (asked_form words)

-- how signatures are verified; by the session's list, where the words don't say
abbrev pub form_verifies : Option Form → Verification
form_verifies (Some (Validate how shows)) = how
form_verifies (Some (Ask how explains protocol server)) = how
form_verifies _ = ByList

abbrev pub words_verify : {Z : Type 0} → List (Vec ℕ Z) → Verification
words_verify words = form_verifies (asked_form words)

abbrev pub help_text : List ℕ
help_text =
    codes "dns_check validate        reads a session and writes the report of its lookup\ndns_check validate trail  the same, and how the lookup came about, step by step\ndns_check verify          as validate, with signatures computed in place of the session's list\ndns_check verify trail    as validate trail, likewise\ndns_check explain         reads a session and writes the report and the trail of its lookup, and why each set isn't secure\ndns_check explain verify  the same, with signatures computed\ndns_check audit           reads a session and a report behind it, and writes which of its parts hold\ndns_check questions       reads a session and writes which signatures a verifier must be asked for\ndns_check roll            reads sightings of a zone's keys and writes which of them are trusted\ndns_check deny            reads a session and questions behind it, and writes which of them the records of its answer deny\ndns_check bench N         looks a host up below N nested zones, 1 to 100, and writes what that took\ndns_check ask udp ADDRESS reads a session and writes the report of its lookup over a server, as 192.0.2.1:53\ndns_check ask tcp ADDRESS the same over a connection\ndns_check ask verify udp ADDRESS, ask verify tcp ADDRESS  the same, with signatures computed\ndns_check ask explain ..  as ask, and as explain: ask explain udp ADDRESS, ask explain verify tcp ADDRESS\ndns_check --help          writes these lines\ndns_check --version       writes the name and the version\n"

abbrev pub version_text : List ℕ
version_text = codes "dns_check 0.1.0\n"
