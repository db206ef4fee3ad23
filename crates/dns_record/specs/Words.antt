-- Types and classes as words: those that have one, and TYPE or CLASS with a number (RFC 1035, 3.2; RFC 2136, 2.4; RFC 3597, 5; the IANA registry).
use Rattle.std.specs.Prelude.{ℕ, ◌==◌, List, [], ◌∷◌, ◌++◌, codes, Option, option_map, unwrap_or}
use Rattle.std.specs.Fmt.{decimal}
use Rattle.std.specs.List.{find}
use Rattle.dns_model.specs.Keys.{bytes_eq}
use Rattle.dns_model.specs.NameText.{printed}
use Rattle.dns_model.specs.Records.{Question}

-- a number and its word
abbrev pub Row : Type 0
Row = ℕ × List ℕ

-- the types that have a word
abbrev pub type_rows : List Row
type_rows =
    (1, codes "A") ∷ (2, codes "NS") ∷ (5, codes "CNAME") ∷ (6, codes "SOA") ∷ (12, codes "PTR") ∷ (15, codes "MX")
    ∷ (16, codes "TXT") ∷ (17, codes "RP") ∷ (18, codes "AFSDB") ∷ (21, codes "RT") ∷ (26, codes "PX") ∷ (28, codes "AAAA")
    ∷ (33, codes "SRV") ∷ (35, codes "NAPTR") ∷ (36, codes "KX") ∷ (39, codes "DNAME") ∷ (41, codes "OPT") ∷ (43, codes "DS")
    ∷ (46, codes "RRSIG") ∷ (47, codes "NSEC") ∷ (48, codes "DNSKEY") ∷ (50, codes "NSEC3") ∷ (51, codes "NSEC3PARAM")
    ∷ (251, codes "IXFR") ∷ (252, codes "AXFR") ∷ (255, codes "ANY") ∷ []

-- the classes that have a word
abbrev pub class_rows : List Row
class_rows = (1, codes "IN") ∷ (3, codes "CH") ∷ (4, codes "HS") ∷ (254, codes "NONE") ∷ (255, codes "ANY") ∷ []

-- the number's own word
unfoldable pub own_word : List Row → ℕ → Option (List ℕ)
own_word rows number = option_map (λ row. row.1) (find (λ row. row.0 == number) rows)

-- the number whose own word it is; case counts
unfoldable pub own_number : List Row → List ℕ → Option ℕ
own_number rows word = option_map (λ row. row.0) (find (λ row. bytes_eq row.1 word) rows)

-- a number's own word, or the prefix and the number
abbrev pub code_word : List Row → List ℕ → ℕ → List ℕ
code_word rows prefix number = unwrap_or (own_word rows number) (prefix ++ decimal number)

-- the word of a type
unfoldable pub type_word : ℕ → List ℕ
type_word number = code_word type_rows (codes "TYPE") number

-- the word of a class
unfoldable pub class_word : ℕ → List ℕ
class_word number = code_word class_rows (codes "CLASS") number

-- a question as text: name, class and type
abbrev pub question_text : Question → List ℕ
question_text query = printed query.owner ++ 32 ∷ class_word query.class ++ 32 ∷ type_word query.rtype
