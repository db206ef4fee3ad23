-- Words of the sentences on an answer: marks, sets and spans of time.
use Rattle.std.specs.Prelude.{ℕ, ◌/◌, ◌==◌, nat_lt, List, [], ◌∷◌, ◌++◌, codes, if◌then◌else◌}
use Rattle.std.specs.Fmt.{decimal}
use Rattle.dns_model.specs.declared.proof.Proof.{Proof}
use Rattle.dns_model.specs.declared.proof.Proof.TheVariants.{Secure, Insecure, Bogus, Indeterminate}
use Rattle.dns_model.specs.Names.{Labels}
use Rattle.dns_model.specs.NameText.{printed}
use Rattle.dns_record.specs.Words.{type_word}

-- a mark as a sentence begins with it (RFC 4035, 4.3)
abbrev pub title : Proof → List ℕ
title Secure = codes "Secure"
title Insecure = codes "Insecure"
title Bogus = codes "Bogus"
title Indeterminate = codes "Indeterminate"

-- an owner and a type
abbrev pub set_words : Labels → ℕ → List ℕ
set_words owner rtype = printed owner ++ (32 ∷ type_word rtype)

-- a number of units
abbrev pub counted : ℕ → List ℕ → List ℕ
counted n unit = decimal n ++ (32 ∷ (unit ++ (if n == 1 then [] else codes "s")))

-- how long so many seconds are, in seconds, whole hours or whole days
unfoldable pub span_words : ℕ → List ℕ
span_words seconds =
    if nat_lt seconds 3600 then counted seconds (codes "second")
    else if nat_lt seconds 86400 then counted (seconds / 3600) (codes "hour")
    else counted (seconds / 86400) (codes "day")

-- a response code by its name (RFC 1035, 4.1.1)
unfoldable pub code_words : ℕ → List ℕ
code_words code =
    if code == 1 then codes "FORMERR"
    else if code == 2 then codes "SERVFAIL"
    else if code == 4 then codes "NOTIMP"
    else if code == 5 then codes "REFUSED"
    else codes "code " ++ decimal code
