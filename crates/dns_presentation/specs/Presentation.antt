-- A record as a line of a master file: owner, ttl, class, type and rdata, without the line's end (RFC 1035, 5.1; RFC 3597, 5).
use Rattle.std.specs.Prelude.{ℕ, nat_lt, List, [], ◌∷◌, ◌++◌, length, codes, if◌then◌else◌, Option, unwrap_or}
use Rattle.std.specs.Fmt.{decimal}
use Rattle.dns_model.specs.Records.{Rr}
use Rattle.dns_model.specs.Types.{has_shapes}
use Rattle.dns_record.specs.Words.{class_word}
use Rattle.dns_text.specs.Words.{octets_word}
use Rattle.dns_presentation.specs.Spelling.{name_text, spaced}
use Rattle.dns_presentation.specs.TypeTexts.{type_text}
use Rattle.dns_presentation.specs.Forms.{Words, form_words}

-- the word of bytes, where there are some
abbrev pub data_words : List ℕ → Words
data_words rdata = if nat_lt 0 (length rdata) then octets_word rdata ∷ [] else []

-- the form of any rdata: `\#`, how many bytes there are, and the bytes as hexadecimal digits
unfoldable pub generic_words : List ℕ → Words
generic_words rdata = codes "\\#" ∷ decimal (length rdata) ∷ data_words rdata

-- a type's form, or the form of any rdata
abbrev pub or_generic : Option Words → List ℕ → Words
or_generic words rdata = unwrap_or words (generic_words rdata)

-- the rdata of a record: in a class whose shapes are unknown it has no form of its own (RFC 3597, 4)
unfoldable pub rdata_words : ℕ → ℕ → List ℕ → Words
rdata_words class rtype rdata = if has_shapes class then or_generic (form_words rtype rdata) rdata else generic_words rdata

-- the line
unfoldable pub presentation : Rr → List ℕ
presentation r =
    name_text r.owner
    ++ spaced (decimal r.ttl ∷ class_word r.class ∷ type_text r.rtype ∷ rdata_words r.class r.rtype r.rdata)
