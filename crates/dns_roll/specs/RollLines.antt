-- The forms of the lines of a text of sightings that sessions don't have: words with one space between each two.
use Rattle.std.specs.Prelude.{ℕ, nat_le, List, codes, length, Option, None, Some, if◌then◌else◌, ◌^◌, ◌-◌}
use Rattle.dns_model.specs.Names.{Labels}
use Rattle.dns_model.specs.OptionSteps.{◌>>=◌}
use Rattle.dns_session.specs.Lines.{words, after, single, double}
use Rattle.dns_text.specs.Words.{name_word_in, decimal_in, octets_in}
use Rattle.dns_roll.specs.RollValue.{SightValue}

-- the one word after the first, where that is this word
abbrev pub word_after : List ℕ → List ℕ → Option (List ℕ)
word_after word line = after word (words line) >>= single

-- the two words after it
abbrev pub words_after : List ℕ → List ℕ → Option (List ℕ × List ℕ)
words_after word line = after word (words line) >>= double

-- `zone NAME`
abbrev pub zone_line : List ℕ → Option Labels
zone_line line = word_after (codes "zone") line >>= name_word_in

-- an rdata has at most 65,535 bytes (RFC 1035, 3.2.1)
abbrev pub if_rdata : List ℕ → Option (List ℕ)
if_rdata bytes = if nat_le (length bytes) 65535 then Some bytes else None

-- `key KEY`, a DNSKEY rdata or what is none
abbrev pub key_line : List ℕ → Option (List ℕ)
key_line line = do
  key ← word_after (codes "key") line
  bytes ← octets_in key
  if_rdata bytes

-- `sight MOMENT MESSAGE`, a number of 64 bits and a message, or bytes that are none
abbrev pub sight_line : List ℕ → Option SightValue
sight_line line = do
  fields ← words_after (codes "sight") line
  moment ← decimal_in (2 ^ 64 - 1) fields.0
  bytes ← octets_in fields.1
  Some (record { moment = moment; bytes = bytes })
