-- What words ask for, read from the left: `[@SERVER] NAME [TYPE]`, and options anywhere among them (form of this program; names and types
-- as RFC 1035, 5.1, and RFC 3597, 5, have them).
use Rattle.std.specs.Prelude.{ℕ, ◌+◌, ◌==◌, Bool, false, List, [], ◌∷◌, length, map, codes, Option, None, Some, is_some, unwrap_or, Result, Ok, Err, if◌then◌else◌}
use Rattle.std.specs.Char.{to_ascii_uppercase}
use Rattle.std.specs.Option.{option_and_then, option_map_or}
use Rattle.dns_model.specs.Gives.{or_error}
use Rattle.dns_model.specs.Names.{Labels}
use Rattle.dns_model.specs.ResultSteps.{◌>>=◌}
use Rattle.dns_model.specs.Types.{class_in, type_a}
use Rattle.dns_text.specs.Codes.{after_prefix}
use Rattle.dns_text.specs.Words.{decimal_in, name_word_in}
use Rattle.dns_master_file.specs.Codes.{type_in}
use Rattle.dns_query_words.specs.Arguments.{DraftValue}
use Rattle.dns_query_words.specs.Options.{no_switches, setting_in, switch_in, switched}
use Rattle.dns_query_words.specs.declared.arguments.Form.{Form}
use Rattle.dns_query_words.specs.declared.arguments.Form.TheVariants as form
use Rattle.dns_query_words.specs.declared.options.Setting.{Setting}
use Rattle.dns_query_words.specs.declared.options.Setting.TheVariants.{Anchors, Depth, Save, Timeout}
use Rattle.dns_query_words.specs.declared.stop.Refusal.{Refusal}
use Rattle.dns_query_words.specs.declared.stop.Refusal.TheVariants.{UnknownOption, Repeated, SecondServer, MissingValue, BadDepth, BadSeconds, BadName, BadType, ExtraWord, MissingName}
use Rattle.dns_query_words.specs.declared.stop.Stop.{Stop}
use Rattle.dns_query_words.specs.declared.stop.Stop.TheVariants.{Refused, NoMemory}
use Rattle.dns_query_words.specs.declared.stop.WordsError.{WordsError}
use Rattle.dns_query_words.specs.declared.stop.WordsError.TheVariants as error

-- ---- single words

-- the name that a word is, with or without its last dot
abbrev pub name_of_word : List ℕ → Result Labels Stop
name_of_word word = or_error (Refused BadName) (name_word_in word)

-- the type that a word is, in whatever case
abbrev pub type_of_word : List ℕ → Result ℕ Stop
type_of_word word = or_error (Refused BadType) (type_in (map to_ascii_uppercase word))

-- a number of seconds, from 1 to 65,535
abbrev pub seconds_in : List ℕ → Option ℕ
seconds_in word = option_and_then (λ seconds. if seconds == 0 then None else Some seconds) (decimal_in 65535 word)

-- the word begins with this byte
abbrev pub begins : ℕ → List ℕ → Bool
begins byte [] = false
begins byte (first ∷ rest) = first == byte

-- ---- what is known after a word

-- nothing is known before the first
abbrev pub blank : DraftValue
blank = record {
  name = None;
  rtype = None;
  server = None;
  anchors = None;
  save = None;
  depth = None;
  timeout = None;
  switches = no_switches;
  awaits = None;
}

-- one server is named at most
abbrev pub with_server : DraftValue → List ℕ → Result DraftValue Stop
with_server draft text = if is_some draft.server then Err (Refused SecondServer) else Ok (record draft { server = Some text })

abbrev pub is_set : DraftValue → Setting → Bool
is_set draft Anchors = is_some draft.anchors
is_set draft Depth = is_some draft.depth
is_set draft Save = is_some draft.save
is_set draft Timeout = is_some draft.timeout

-- an option that takes a value stands once at most
abbrev pub with_setting : DraftValue → Setting → Result DraftValue Stop
with_setting draft setting = if is_set draft setting then Err (Refused Repeated) else Ok (record draft { awaits = Some setting })

-- the first word that is no option is the name, the second the type
abbrev pub with_plain : DraftValue → List ℕ → Result DraftValue Stop
with_plain draft word =
    if is_some draft.name
    then (if is_some draft.rtype then Err (Refused ExtraWord) else (type_of_word word >>= λ rtype. Ok (record draft { rtype = Some rtype })))
    else (name_of_word word >>= λ name. Ok (record draft { name = Some name }))

-- a value that is no number is refused
abbrev pub with_number : Refusal → (ℕ → DraftValue) → Option ℕ → Result DraftValue Stop
with_number reason set None = Err (Refused reason)
with_number reason set (Some number) = Ok (set number)

abbrev pub deepened : DraftValue → ℕ → DraftValue
deepened draft depth = record draft { depth = Some depth; awaits = None }

abbrev pub timed : DraftValue → ℕ → DraftValue
timed draft seconds = record draft { timeout = Some seconds; awaits = None }

-- the value of an option: a path, a depth from 0 to 255, or seconds
abbrev pub with_value : DraftValue → Setting → List ℕ → Result DraftValue Stop
with_value draft Anchors word = Ok (record draft { anchors = Some word; awaits = None })
with_value draft Save word = Ok (record draft { save = Some word; awaits = None })
with_value draft Depth word = with_number BadDepth (deepened draft) (decimal_in 255 word)
with_value draft Timeout word = with_number BadSeconds (timed draft) (seconds_in word)

-- a word that is no option's value: a server behind `@`, an option, or a name or type
unfoldable pub with_word : DraftValue → List ℕ → Result DraftValue Stop
with_word draft word =
    option_map_or (with_server draft) (after_prefix (codes "@") word)
    (option_map_or (λ switch. Ok (record draft { switches = switched switch draft.switches })) (switch_in word)
    (option_map_or (with_setting draft) (setting_in word)
    (if begins 45 word then Err (Refused UnknownOption) else with_plain draft word)))

abbrev pub after_word_by : Option Setting → DraftValue → List ℕ → Result DraftValue Stop
after_word_by (Some setting) draft word = with_value draft setting word
after_word_by None draft word = with_word draft word

-- what is known after one more word
abbrev pub after_word : DraftValue → List ℕ → Result DraftValue Stop
after_word draft word = after_word_by draft.awaits draft word

-- ---- all words

-- words are counted from 0
abbrev pub at_word : ℕ → Stop → WordsError
at_word place (Refused reason) = error.Refused reason place
at_word place NoMemory = error.NoMemory

abbrev pub placed : {X : Type 0} → ℕ → Result X Stop → Result X WordsError
placed place (Ok x) = Ok x
placed place (Err stop) = Err (at_word place stop)

-- what is known after these words, of which the first has this number
unfoldable pub drafted : DraftValue → ℕ → List (List ℕ) → Result DraftValue WordsError
drafted draft place [] = Ok draft
drafted draft place (word ∷ rest) = placed place (after_word draft word) >>= λ next. drafted next (place + 1) rest

-- the question, and how it is asked; of type A and for 30 seconds, where no word says it
abbrev pub asked_by : Option Labels → DraftValue → ℕ → Result Form WordsError
asked_by None draft count = Err (error.Refused MissingName count)
asked_by (Some name) draft count =
    Ok (form.Ask (record {
      query = record { owner = name; rtype = unwrap_or draft.rtype type_a; class = class_in };
      server = draft.server;
      anchors = draft.anchors;
      save = draft.save;
      depth = draft.depth;
      timeout = unwrap_or draft.timeout 30;
      switches = draft.switches;
    }))

abbrev pub asked : DraftValue → ℕ → Result Form WordsError
asked draft count = asked_by draft.name draft count

-- what so many words ask for, after the last of them
abbrev pub finished : DraftValue → ℕ → Result Form WordsError
finished draft count =
    if is_some draft.awaits then Err (error.Refused MissingValue count)
    else if draft.switches.help then Ok form.Help
    else if draft.switches.version then Ok form.Version
    else asked draft count

-- what words ask for, or the first that can't stand
abbrev pub form_in : List (List ℕ) → Result Form WordsError
form_in words = drafted blank 0 words >>= λ draft. finished draft (length words)
