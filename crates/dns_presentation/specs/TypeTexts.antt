-- Words of types in a master file (RFC 1035, 5.1; RFC 3597, 5; the IANA registry of DNS parameters).
use Rattle.std.specs.Prelude.{ℕ, List, [], ◌∷◌, codes, unwrap_or}
use Rattle.dns_record.specs.Words.{Row, own_word, type_word}

-- the types that have a word here beside those of `type_rows`: sessions and reports know these by their numbers alone
abbrev pub further_rows : List Row
further_rows =
    (13, codes "HINFO") ∷ (29, codes "LOC") ∷ (44, codes "SSHFP") ∷ (52, codes "TLSA") ∷ (53, codes "SMIMEA") ∷ (59, codes "CDS")
    ∷ (60, codes "CDNSKEY") ∷ (61, codes "OPENPGPKEY") ∷ (62, codes "CSYNC") ∷ (63, codes "ZONEMD") ∷ (64, codes "SVCB")
    ∷ (65, codes "HTTPS") ∷ (99, codes "SPF") ∷ (256, codes "URI") ∷ (257, codes "CAA") ∷ []

-- the word of a type
unfoldable pub type_text : ℕ → List ℕ
type_text number = unwrap_or (own_word further_rows number) (type_word number)
