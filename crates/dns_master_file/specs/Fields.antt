-- The fields of each type's rdata as they are read (RFC 1035, 3.3; RFC 2782; RFC 3596; RFC 4034; RFC 4255; RFC 5155; RFC 6698; RFC 8659).
use Rattle.std.specs.Prelude.{ℕ, Bool, true, false, ◌==◌, ◌||◌, List, [], ◌∷◌, ◌++◌, length, if◌then◌else◌, Option, None, Some, Result, Ok}
use Rattle.std.specs.List.{concat}
use Rattle.dns_model.specs.Gives.{or_error}
use Rattle.dns_model.specs.ResultSteps.{◌>>=◌}
use Rattle.dns_model.specs.Types.{type_a, type_ns, type_cname, type_soa, type_aaaa, type_dname, type_ds, type_rrsig, type_nsec, type_dnskey, type_nsec3}
use Rattle.dns_master_words.specs.Bitmaps.{bitmap_of}
use Rattle.dns_master_file.specs.Codes.{type_in}
use Rattle.dns_master_file.specs.Front.{all_in, is_over, joined_in, refused, text_word, with_bytes, word_as, word_in}
use Rattle.dns_master_file.specs.Meanings.{counted, meant}
use Rattle.dns_master_file.specs.declared.field.Field.{Field}
use Rattle.dns_master_file.specs.declared.field.Field.TheVariants.{Byte, TwoBytes, FourBytes, DomainName, Salt, Digits, Base64, Ipv4, Ipv6, TypeWord, Time, Tag, Text, Texts, Hash, Types}
use Rattle.dns_master_file.specs.declared.stop.Refusal.{Refusal}
use Rattle.dns_master_file.specs.declared.stop.Refusal.TheVariants.{BadAddress, BadBase64, BadDigits, BadEscape, BadHash, BadName, BadNumber, BadTag, BadTime, BadType, ExtraWord, LongText}
use Rattle.dns_master_file.specs.declared.stop.Stop.{Stop}
use Rattle.dns_master_file.specs.declared.stop.Stop.TheVariants.{At}

-- what is wrong with a word that isn't a field's
abbrev pub refusal_of : Field → Refusal
refusal_of DomainName = BadName
refusal_of Salt = BadDigits
refusal_of Digits = BadDigits
refusal_of Base64 = BadBase64
refusal_of Ipv4 = BadAddress
refusal_of Ipv6 = BadAddress
refusal_of TypeWord = BadType
refusal_of Time = BadTime
refusal_of Tag = BadTag
refusal_of Text = BadEscape
refusal_of Texts = BadEscape
refusal_of Hash = BadHash
refusal_of Types = BadType
refusal_of _ = BadNumber

-- the field is all that is left of the line (RFC 4034, 2.2: blanks may stand within base64)
abbrev pub takes_rest : Field → Bool
takes_rest Digits = true
takes_rest Base64 = true
takes_rest _ = false

-- all that is left of the line as one word
abbrev pub rest_in : List ℕ → Result (List ℕ × List ℕ) Stop
rest_in bytes = joined_in bytes >>= λ word. Ok (word, [])

-- the field may stand between quotes (RFC 8659, 4.1.1)
abbrev pub is_text : Field → Bool
is_text Text = true
is_text Texts = true
is_text _ = false

-- the word at the front, or for some fields the text, and what is left after it
abbrev pub front_word : Field → List ℕ → Result (List ℕ × List ℕ) Stop
front_word field bytes = if is_text field then text_word bytes else word_in bytes

-- the word of a field, and what is left after it
abbrev pub field_word : Field → List ℕ → Result (List ℕ × List ℕ) Stop
field_word field bytes = if takes_rest field then rest_in bytes else front_word field bytes

-- the bytes of a field that is one word, or of one of its texts, and what is left after it
unfoldable pub one_in : Field → List ℕ → Result (List ℕ × List ℕ) Stop
one_in field bytes = do
  word ← field_word field bytes
  octets ← or_error (At (refusal_of field) (length bytes)) (meant field word.0)
  Ok (octets, word.1)

-- a character-string behind its number of bytes, and what is left after it (RFC 1035, 3.3)
unfoldable pub string_in : List ℕ → Result (List ℕ × List ℕ) Stop
string_in bytes = do
  text ← one_in Texts bytes
  octets ← or_error (At LongText (length bytes)) (counted text.0)
  Ok (octets, text.1)

-- character-strings up to the end, at least one (RFC 1035, 3.3.14)
unfoldable pub strings_in : List ℕ → Result (List ℕ) Stop
strings_in bytes = do
  first ← string_in bytes
  more ← all_in string_in first.1
  Ok (first.0 ++ concat more)

-- the type at the front, and what is left after it
abbrev pub type_first : List ℕ → Result (ℕ × List ℕ) Stop
type_first bytes = word_as BadType type_in bytes

-- the bitmap of the types up to the end, in any order (RFC 4034, 4.2)
unfoldable pub types_in : List ℕ → Result (List ℕ) Stop
types_in bytes = all_in type_first bytes >>= λ types. Ok (bitmap_of types)

-- the bytes of a field, and what is left after it
abbrev pub field_in : Field → List ℕ → Result (List ℕ × List ℕ) Stop
field_in Texts bytes = strings_in bytes >>= λ octets. Ok (octets, [])
field_in Types bytes = types_in bytes >>= λ octets. Ok (octets, [])
field_in field bytes = one_in field bytes

-- the bytes of these fields, with nothing behind them
unfoldable pub fields_in : List Field → List ℕ → Result (List ℕ) Stop
fields_in [] bytes = if is_over bytes then Ok [] else refused ExtraWord bytes
fields_in (field ∷ fields) bytes = field_in field bytes >>= λ first. with_bytes first.0 (fields_in fields first.1)

-- the fields of the types that are read by their own form: PTR is 12, MX 15, TXT 16, SRV 33, SSHFP 44, NSEC3PARAM 51, TLSA 52, SMIMEA 53,
-- CDS 59, CDNSKEY 60 and CAA 257
unfoldable pub fields_of : ℕ → Option (List Field)
fields_of rtype =
    if rtype == type_a then Some (Ipv4 ∷ [])
    else if (rtype == type_ns) || (rtype == type_cname) || (rtype == 12) || (rtype == type_dname) then Some (DomainName ∷ [])
    else if rtype == type_soa then Some (DomainName ∷ DomainName ∷ FourBytes ∷ FourBytes ∷ FourBytes ∷ FourBytes ∷ FourBytes ∷ [])
    else if rtype == 15 then Some (TwoBytes ∷ DomainName ∷ [])
    else if rtype == 16 then Some (Texts ∷ [])
    else if rtype == type_aaaa then Some (Ipv6 ∷ [])
    else if rtype == 33 then Some (TwoBytes ∷ TwoBytes ∷ TwoBytes ∷ DomainName ∷ [])
    else if (rtype == type_ds) || (rtype == 59) then Some (TwoBytes ∷ Byte ∷ Byte ∷ Digits ∷ [])
    else if rtype == 44 then Some (Byte ∷ Byte ∷ Digits ∷ [])
    else if rtype == type_rrsig
    then Some (TypeWord ∷ Byte ∷ Byte ∷ FourBytes ∷ Time ∷ Time ∷ TwoBytes ∷ DomainName ∷ Base64 ∷ [])
    else if rtype == type_nsec then Some (DomainName ∷ Types ∷ [])
    else if (rtype == type_dnskey) || (rtype == 60) then Some (TwoBytes ∷ Byte ∷ Byte ∷ Base64 ∷ [])
    else if rtype == type_nsec3 then Some (Byte ∷ Byte ∷ TwoBytes ∷ Salt ∷ Hash ∷ Types ∷ [])
    else if rtype == 51 then Some (Byte ∷ Byte ∷ TwoBytes ∷ Salt ∷ [])
    else if (rtype == 52) || (rtype == 53) then Some (Byte ∷ Byte ∷ Byte ∷ Digits ∷ [])
    else if rtype == 257 then Some (Byte ∷ Tag ∷ Text ∷ [])
    else None
