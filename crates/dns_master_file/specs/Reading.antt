-- What a line of a master file says (RFC 1035, 5.1; RFC 3597, 5).
use Rattle.std.specs.Prelude.{ℕ, ◌+◌, ◌-◌, ◌==◌, nat_le, List, [], ◌∷◌, length, codes, if◌then◌else◌, Option, None, Some, Result, Ok, Err}
use Rattle.dns_model.specs.Gives.{or_error}
use Rattle.dns_model.specs.Keys.{bytes_eq}
use Rattle.dns_model.specs.Names.{Labels}
use Rattle.dns_model.specs.ResultSteps.{◌>>=◌}
use Rattle.dns_model.specs.Types.{has_shapes}
use Rattle.dns_text.specs.Words.{decimal_in}
use Rattle.dns_master_file.specs.Codes.{class_in}
use Rattle.dns_master_file.specs.Fields.{fields_in, fields_of, type_first}
use Rattle.dns_master_file.specs.Meanings.{digits_meant, name_meant}
use Rattle.dns_master_file.specs.Front.{after_blanks, is_blank, is_over, joined_in, refused, word_as, word_in}
use Rattle.dns_master_file.specs.declared.stop.LineError.{LineError}
use Rattle.dns_master_file.specs.declared.stop.LineError.TheVariants as error
use Rattle.dns_master_file.specs.declared.stop.Refusal.TheVariants.{BadClass, BadDigits, BadLength, BadName, BadNumber, Directive, LongRdata, NoForm, NoOwner}
use Rattle.dns_master_file.specs.declared.stop.Stop.{Stop}
use Rattle.dns_master_file.specs.declared.stop.Stop.TheVariants.{At, NoMemory}

-- what a line says; the ttl may be left out
pub record LineValue : Type 0 where
  pub owner : Labels
  pub ttl : Option ℕ
  pub class : ℕ
  pub rtype : ℕ
  pub rdata : List ℕ

-- ---- rdata

-- the bytes, if they are as many as was said
abbrev pub of_size : ℕ → List ℕ → List ℕ → Result (List ℕ) Stop
of_size size left bytes = if length bytes == size then Ok bytes else refused BadLength left

-- any rdata, after the word `\#`: how many bytes it has, and these as hexadecimal digits
unfoldable pub generic_in : List ℕ → Result (List ℕ) Stop
generic_in bytes = do
  size ← word_as BadNumber (decimal_in 65535) bytes
  digits ← joined_in size.1
  octets ← or_error (At BadDigits (length size.1)) (digits_meant digits)
  of_size size.0 size.1 octets

-- an rdata in its type's form; in a class whose shapes are unknown it has none (RFC 3597, 4)
abbrev pub form_in : ℕ → ℕ → List ℕ → Result (List ℕ) Stop
form_in class rtype bytes =
    if has_shapes class then (or_error (At NoForm (length bytes)) (fields_of rtype) >>= λ fields. fields_in fields bytes)
    else refused NoForm bytes

-- what is left after the word `\#`, where it is in front
abbrev pub after_mark : Result (List ℕ × List ℕ) Stop → Option (List ℕ)
after_mark (Ok (word, left)) = if bytes_eq word (codes "\\#") then Some left else None
after_mark (Err stop) = None

abbrev pub generic_or : Option (List ℕ) → Result (List ℕ) Stop → Result (List ℕ) Stop
generic_or (Some left) form = generic_in left
generic_or None form = form

abbrev pub short : List ℕ → List ℕ → Result (List ℕ) Stop
short left rdata = if nat_le (length rdata) 65535 then Ok rdata else refused LongRdata left

-- an rdata in either form
abbrev pub either_in : ℕ → ℕ → List ℕ → Result (List ℕ) Stop
either_in class rtype bytes = generic_or (after_mark (word_in bytes)) (form_in class rtype bytes)

-- the rdata of a record of this class and type
unfoldable pub rdata_in : ℕ → ℕ → List ℕ → Result (List ℕ) Stop
rdata_in class rtype bytes = either_in class rtype bytes >>= short bytes

-- ---- the line

-- the owner, which isn't left out; `$` begins a directive
unfoldable pub owner_in : List ℕ → Result (Labels × List ℕ) Stop
owner_in [] = refused NoOwner []
owner_in (byte ∷ rest) =
    if is_blank byte then refused NoOwner (byte ∷ rest)
    else if byte == 36 then refused Directive (byte ∷ rest)
    else word_as BadName name_meant (byte ∷ rest)

abbrev pub ttl_or_none : List ℕ → List ℕ → Option ℕ → Option ℕ × List ℕ
ttl_or_none bytes left None = (None, bytes)
ttl_or_none bytes left (Some ttl) = (Some ttl, left)

-- a number, if there is one, is the ttl
unfoldable pub ttl_in : List ℕ → Result (Option ℕ × List ℕ) Stop
ttl_in bytes = word_in bytes >>= λ word. Ok (ttl_or_none bytes word.1 (decimal_in 4294967295 word.0))

-- a line that isn't blank
unfoldable pub entry_in : List ℕ → Result LineValue Stop
entry_in bytes = do
  owner ← owner_in bytes
  ttl ← ttl_in owner.1
  class ← word_as BadClass class_in ttl.1
  rtype ← type_first class.1
  rdata ← rdata_in class.0 rtype.0 rtype.1
  Ok (record { owner = owner.0; ttl = ttl.0; class = class.0; rtype = rtype.0; rdata = rdata })

-- columns are counted from 1
abbrev pub at_column : List ℕ → Stop → LineError
at_column line (At reason left) = error.Refused reason (length line + 1 - left)
at_column line NoMemory = error.NoMemory

abbrev pub placed : {X : Type 0} → List ℕ → Result X Stop → Result X LineError
placed line (Ok x) = Ok x
placed line (Err stop) = Err (at_column line stop)

-- what a line says, or None of a line that is blank or has but a comment
unfoldable pub line_in : List ℕ → Result (Option LineValue) LineError
line_in line =
    if is_over (after_blanks line) then Ok None else placed line (entry_in line >>= λ entry. Ok (Some entry))
