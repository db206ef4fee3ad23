-- What a list of accepted signatures supports and accepts.
use Rattle.std.specs.Prelude.{ℕ, Bool, IsTrue, ◌↔◌, not, ◌==◌, ◌&&◌, ◌||◌, List, [], ◌∷◌, ◌++◌, if◌then◌else◌}
use Rattle.std.specs.List.{list_all, list_any}
use Rattle.dns_model.specs.Keys.{VerifierAnswers, bytes_eq, AcceptedSignatureValue}
use Rattle.dns_evidence.specs.Finding.{mixed}
use Rattle.dns_evidence.specs.Verifiers.{AnswerAlike}

pub record ListedValue : Type 0 where
  pub algorithms : List ℕ
  pub accepted : List AcceptedSignatureValue

-- the signature that is looked for is that of an entry
abbrev pub is_entry : AcceptedSignatureValue → AcceptedSignatureValue → Bool
is_entry sought entry =
    (sought.algorithm == entry.algorithm)
    && (bytes_eq sought.key entry.key && (bytes_eq sought.bytes entry.bytes && bytes_eq sought.signature entry.signature))

abbrev pub is_listed : ListedValue → ℕ → Bool
is_listed listed algorithm = list_any (λ a. algorithm == a) listed.algorithms

-- what is listed is supported and accepted, but never algorithm 1 (RFC 8624, 3.1)
abbrev pub answers_of : ListedValue → VerifierAnswers
answers_of listed = record {
  supports = λ algorithm. not (algorithm == 1) && is_listed listed algorithm;
  accepts = λ algorithm key bytes signature.
      not (algorithm == 1)
      && list_any (is_entry (record { algorithm = algorithm; key = key; bytes = bytes; signature = signature })) listed.accepted;
}

-- two lists answer alike exactly where this is true
abbrev pub SaysSame : ListedValue → ListedValue → Bool → Type 0
SaysSame one other answer = IsTrue answer ↔ AnswerAlike (answers_of one) (answers_of other)

-- one algorithm more; algorithm 1 changes nothing
abbrev pub with_algorithm : ListedValue → ℕ → ListedValue
with_algorithm listed algorithm =
    if (algorithm == 1) || is_listed listed algorithm then listed
    else record listed { algorithms = listed.algorithms ++ algorithm ∷ [] }

-- one signature more; algorithm 1 changes nothing
abbrev pub with_accepted : ListedValue → AcceptedSignatureValue → ListedValue
with_accepted listed entry =
    if entry.algorithm == 1 then listed else record listed { accepted = listed.accepted ++ entry ∷ [] }

-- ---- for private functions of this crate only

-- the number by which a signature is found
abbrev pub signature_number : AcceptedSignatureValue → ℕ
signature_number sought = mixed (mixed (mixed sought.algorithm sought.key) sought.bytes) sought.signature

-- a signature is listed
abbrev pub holds : ListedValue → AcceptedSignatureValue → Bool
holds listed sought = list_any (is_entry sought) listed.accepted

-- all that one list holds, the other holds, algorithm 1 aside
abbrev pub is_within : ListedValue → ListedValue → Bool
is_within one other =
    list_all (λ a. (a == 1) || is_listed other a) one.algorithms
    && list_all (λ e. (e.algorithm == 1) || holds other e) one.accepted
