-- The lines that say which questions the records of an answer deny (RFC 8198, 5.1 to 5.4).
use Rattle.std.specs.Prelude.{ℕ, List, [], ◌∷◌, ◌++◌, codes, Option, None, Some}
use Rattle.std.specs.Fmt.{decimal}
use Rattle.std.specs.List.{flat_map}
use Rattle.dns_model.specs.Records.{Question}
use Rattle.dns_model.specs.SoundAnswers.{ResponseValue}
use Rattle.dns_model.specs.NameText.{printed}
use Rattle.dns_record.specs.Words.{type_word}
use Rattle.dns_aggressive.specs.Records.{StoreValue}
use Rattle.dns_aggressive.specs.Taking.{taken}
use Rattle.dns_aggressive.specs.Lists.{kept_after}
use Rattle.dns_aggressive.specs.Denials.{SynthesizedValue, made}

-- a store of 65,536 records that has taken those of one answer
abbrev pub store_of : ResponseValue → ℕ → StoreValue
store_of answer moment = record { limit = 65536; most = None; kept = kept_after 65536 [] (taken answer moment) }

-- ` denied CODE TTL`, or ` unknown`
abbrev pub verdict_words : Option SynthesizedValue → List ℕ
verdict_words None = codes " unknown"
verdict_words (Some denial) = codes " denied " ++ (decimal denial.code ++ (32 ∷ decimal denial.ttl))

-- the name, its type, and what is said of them
abbrev pub denial_line : StoreValue → ℕ → Question → List ℕ
denial_line store moment question =
    printed question.owner ++ (32 ∷ (type_word question.rtype ++ (verdict_words (made store question moment) ++ 10 ∷ [])))

-- a line for each question, in order
abbrev pub denials_text : ResponseValue → ℕ → List Question → List ℕ
denials_text answer moment questions = flat_map (denial_line (store_of answer moment) moment) questions
