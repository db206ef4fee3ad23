-- What the words of an rdata mean (RFC 1035, 3.3 and 5.1; RFC 3596; RFC 4034; RFC 4648; RFC 5155; RFC 8659).
use Rattle.std.specs.Prelude.{ℕ, nat_le, nat_lt, List, [], ◌∷◌, length, codes, if◌then◌else◌, Option, None, Some, option_map}
use Rattle.std.specs.Result.{result_ok}
use Rattle.base64.specs.GeneralPurpose as base64
use Rattle.base64.specs.Engines.{standard}
use Rattle.hex.specs.Hex as hex
use Rattle.dns_model.specs.Bytes.{u16_bytes, u32_bytes}
use Rattle.dns_model.specs.Keys.{bytes_eq}
use Rattle.dns_model.specs.Names.{Labels, wire}
use Rattle.dns_model.specs.NameText.{read_name}
use Rattle.dns_model.specs.Nsec3Hash.{base32hex_decode}
use Rattle.dns_model.specs.OptionSteps.{◌>>=◌}
use Rattle.dns_text.specs.Words.{decimal_in, octets_in}
use Rattle.dns_presentation.specs.Forms.{is_tag}
use Rattle.dns_master_words.specs.Addresses.{ipv4_in, ipv6_in}
use Rattle.dns_master_words.specs.Texts.{text_in}
use Rattle.dns_master_words.specs.Times.{time_in}
use Rattle.dns_master_file.specs.Codes.{type_in}
use Rattle.dns_master_file.specs.declared.field.Field.{Field}
use Rattle.dns_master_file.specs.declared.field.Field.TheVariants.{Byte, TwoBytes, FourBytes, DomainName, Salt, Digits, Base64, Ipv4, Ipv6, TypeWord, Time, Tag, Text, Texts, Hash, Types}

-- the name that a word is; one without a last dot stands below the root. `@` alone means an origin, of which there is none.
abbrev pub name_meant : List ℕ → Option Labels
name_meant word = if bytes_eq word (codes "@") then None else result_ok (read_name word)

-- hexadecimal digits of either case, two for each byte
unfoldable pub digits_meant : List ℕ → Option (List ℕ)
digits_meant word = result_ok (hex.decode_of word)

unfoldable pub base64_meant : List ℕ → Option (List ℕ)
base64_meant word = result_ok (base64.decode_of standard word)

-- one byte at least
abbrev pub filled : Option (List ℕ) → Option (List ℕ)
filled None = None
filled (Some bytes) = if nat_lt 0 (length bytes) then Some bytes else None

-- bytes behind their number, which has eight bits
abbrev pub counted : List ℕ → Option (List ℕ)
counted bytes = if nat_le (length bytes) 255 then Some (length bytes ∷ bytes) else None

-- letters and digits behind their number, at least one (RFC 8659, 4.1)
abbrev pub tag_meant : List ℕ → Option (List ℕ)
tag_meant word = if is_tag word then counted word else None

-- the bytes of a field's word
unfoldable pub meant : Field → List ℕ → Option (List ℕ)
meant Byte word = option_map (λ n. n ∷ []) (decimal_in 255 word)
meant TwoBytes word = option_map u16_bytes (decimal_in 65535 word)
meant FourBytes word = option_map u32_bytes (decimal_in 4294967295 word)
meant DomainName word = option_map wire (name_meant word)
meant Salt word = octets_in word >>= counted
meant Digits word = filled (digits_meant word)
meant Base64 word = filled (base64_meant word)
meant Ipv4 word = ipv4_in word
meant Ipv6 word = ipv6_in word
meant TypeWord word = option_map u16_bytes (type_in word)
meant Time word = option_map u32_bytes (time_in word)
meant Tag word = tag_meant word
meant Text word = text_in word
meant Texts word = text_in word
meant Hash word = base32hex_decode word >>= counted
meant Types word = option_map u16_bytes (type_in word)
