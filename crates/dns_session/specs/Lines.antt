-- The forms of a session's lines: words with one space between each two.
use Rattle.std.specs.Prelude.{ℕ, Bool, true, false, List, [], ◌∷◌, codes, Option, None, Some, Result, if◌then◌else◌, ◌^◌, ◌-◌}
use Rattle.std.specs.Option.{option_or}
use Rattle.dns_model.specs.Keys.{AnchorValue, bytes_eq, AcceptedSignatureValue}
use Rattle.dns_model.specs.Records.{Question, MessageValue}
use Rattle.dns_model.specs.Types.{class_in}
use Rattle.dns_message.specs.MessageAt.{message_at}
use Rattle.dns_message.specs.declared.decode_error.DecodeError.{DecodeError}
use Rattle.dns_text.specs.Words.{name_word_in, decimal_in, octets_in}
use Rattle.dns_text.specs.Codes.{type_word_in}
use Rattle.dns_model.specs.OptionSteps.{◌>>=◌}
use Rattle.dns_session.specs.declared.reply.ReplyFault.{ReplyFault}
use Rattle.dns_session.specs.declared.reply.ReplyFault.TheVariants.{Timeout, Io, Busy}
use Rattle.dns_session.specs.SessionValue.{Message, Empty, Fault, ReplyValue}
use Rattle.dns_session.specs.LinePlaces.{pieces}

abbrev pub Words : Type 0
Words = List (List ℕ)

abbrev pub words : List ℕ → Words
words line = pieces 32 line

-- the words after the first, where that is this word
abbrev pub after : List ℕ → Words → Option Words
after word [] = None
after word (first ∷ rest) = if bytes_eq first word then Some rest else None

-- this line and no other
abbrev pub fixed : List ℕ → List ℕ → Option (Unit {0})
fixed text line = if bytes_eq line text then Some tt else None

-- one word
abbrev pub single : Words → Option (List ℕ)
single (a ∷ []) = Some a
single _ = None

-- two words
abbrev pub double : Words → Option (List ℕ × List ℕ)
double [] = None
double (a ∷ ws) = single ws >>= λ b. Some (a, b)

-- three words
abbrev pub triple : Words → Option (List ℕ × List ℕ × List ℕ)
triple [] = None
triple (a ∷ ws) = double ws >>= λ more. Some (a, more.0, more.1)

-- four words
abbrev pub quadruple : Words → Option (List ℕ × List ℕ × List ℕ × List ℕ)
quadruple [] = None
quadruple (a ∷ ws) = triple ws >>= λ more. Some (a, more.0, more.1, more.2)

-- numbers of eight bits
unfoldable pub bytes_in : Words → Option (List ℕ)
bytes_in [] = Some []
bytes_in (w ∷ ws) = do
  first ← decimal_in 255 w
  others ← bytes_in ws
  Some (first ∷ others)

-- the version, as whether replies are served by turn: `dns-session 1`, where they aren't, or `dns-session 2`, where they are
abbrev pub header_line : List ℕ → Option Bool
header_line line =
    if bytes_eq line (codes "dns-session 1") then Some false
    else if bytes_eq line (codes "dns-session 2") then Some true
    else None

-- `moment N`, a number of 64 bits
abbrev pub moment_line : List ℕ → Option ℕ
moment_line line = do
  rest ← after (codes "moment") (words line)
  number ← single rest
  decimal_in (2 ^ 64 - 1) number

-- `depth N`, a number of 16 bits
abbrev pub depth_line : List ℕ → Option ℕ
depth_line line = do
  rest ← after (codes "depth") (words line)
  number ← single rest
  decimal_in (2 ^ 16 - 1) number

-- `algorithms` and any number of numbers of eight bits
abbrev pub algorithms_line : List ℕ → Option (List ℕ)
algorithms_line line = after (codes "algorithms") (words line) >>= bytes_in

-- `accept ALGORITHM KEY BYTES SIGNATURE`
abbrev pub accept_line : List ℕ → Option AcceptedSignatureValue
accept_line line = do
  rest ← after (codes "accept") (words line)
  fields ← quadruple rest
  algorithm ← decimal_in 255 fields.0
  key ← octets_in fields.1
  bytes ← octets_in fields.2
  signature ← octets_in fields.3
  Some (record { algorithm = algorithm; key = key; bytes = bytes; signature = signature })

-- `anchor NAME ALGORITHM KEY`
abbrev pub anchor_line : List ℕ → Option AnchorValue
anchor_line line = do
  rest ← after (codes "anchor") (words line)
  fields ← triple rest
  owner ← name_word_in fields.0
  algorithm ← decimal_in 255 fields.1
  key ← octets_in fields.2
  Some (record { owner = owner; algorithm = algorithm; key = key })

-- `end`
abbrev pub end_line : List ℕ → Option (Unit {0})
end_line = fixed (codes "end")

-- a question of class IN, by its words
abbrev pub question_in : List ℕ → List ℕ → Option Question
question_in name rtype = do
  owner ← name_word_in name
  number ← type_word_in rtype
  Some (record { owner = owner; rtype = number; class = class_in })

-- `query NAME TYPE`
abbrev pub query_line : List ℕ → Option Question
query_line line = do
  rest ← after (codes "query") (words line)
  fields ← double rest
  question_in fields.0 fields.1

-- the three words after the first, where that is this word
abbrev pub three_after : List ℕ → List ℕ → Option (List ℕ × List ℕ × List ℕ)
three_after word line = after word (words line) >>= triple

-- the message that a word's bytes are, or the fault of bytes that are none
abbrev pub message_word_in : List ℕ → Option (Result MessageValue DecodeError)
message_word_in word = octets_in word >>= λ bytes. Some (message_at bytes)

-- a question and a message, by their words after this one
abbrev pub message_after : List ℕ → List ℕ → Option (Question × Result MessageValue DecodeError)
message_after word line = do
  fields ← three_after word line
  question ← question_in fields.0 fields.1
  message ← message_word_in fields.2
  Some (question, message)

-- `reply NAME TYPE MESSAGE`
abbrev pub reply_line : List ℕ → Option ReplyValue
reply_line line = message_after (codes "reply") line >>= λ told. Some (record { question = told.0; kind = Message told.1 })

-- `empty NAME TYPE MESSAGE`
abbrev pub empty_line : List ℕ → Option ReplyValue
empty_line line = message_after (codes "empty") line >>= λ told. Some (record { question = told.0; kind = Empty told.1 })

-- a fault, by its word
abbrev pub fault_word_in : List ℕ → Option ReplyFault
fault_word_in word =
    if bytes_eq word (codes "timeout") then Some Timeout
    else if bytes_eq word (codes "io") then Some Io
    else if bytes_eq word (codes "busy") then Some Busy
    else None

-- `fault NAME TYPE FAULT`, where the fault is `timeout`, `io` or `busy`
abbrev pub fault_line : List ℕ → Option ReplyValue
fault_line line = do
  fields ← three_after (codes "fault") line
  question ← question_in fields.0 fields.1
  fault ← fault_word_in fields.2
  Some (record { question = question; kind = Fault fault })

-- what the upstream says to a question: a `reply`, an `empty` or a `fault` line
abbrev pub upstream_line : List ℕ → Option ReplyValue
upstream_line line = option_or (reply_line line) (option_or (empty_line line) (fault_line line))

-- for private functions of this crate only

-- the words of what is left of a line, if something is
abbrev pub words_left : Option (List ℕ) → Words
words_left None = []
words_left (Some rest) = words rest
