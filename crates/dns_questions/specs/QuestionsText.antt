-- Questions as a text: the lines by which a session says that a signature is accepted, for whoever has a verifier to choose from.
use Rattle.std.specs.Prelude.{ℕ, List, [], ◌∷◌, ◌++◌, codes}
use Rattle.std.specs.Fmt.{decimal}
use Rattle.std.specs.List.{flat_map}
use Rattle.dns_model.specs.Keys.{AcceptedSignatureValue}
use Rattle.dns_text.specs.Words.{octets_word}

-- a space, and the word of bytes
abbrev pub spaced_octets : List ℕ → List ℕ
spaced_octets bytes = 32 ∷ octets_word bytes

-- `accept ALGORITHM KEY BYTES SIGNATURE`, without LF
abbrev pub accept_words : AcceptedSignatureValue → List ℕ
accept_words q =
    codes "accept " ++ (decimal q.algorithm ++ (spaced_octets q.key ++ (spaced_octets q.bytes ++ spaced_octets q.signature)))

-- the line of a question
abbrev pub accept_text : AcceptedSignatureValue → List ℕ
accept_text q = accept_words q ++ 10 ∷ []

-- a line for each question, in order, between the first line and the last
unfoldable pub questions_text : List AcceptedSignatureValue → List ℕ
questions_text qs = codes "dns-questions 1\n" ++ (flat_map accept_text qs ++ codes "end\n")
