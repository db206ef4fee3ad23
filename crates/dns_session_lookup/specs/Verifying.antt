-- How the signatures of a session are verified (RFC 4035, 5.3.3): which algorithms its verifier supports, and which signatures it accepts.
use Rattle.std.specs.Prelude.{ℕ, List}
use Rattle.dns_model.specs.Keys.{AcceptedSignatureValue, VerifierAnswers}
use Rattle.dns_evidence.specs.Listing.{ListedValue, answers_of}
use Rattle.dns_session.specs.SessionValue.{SessionValue}
use Rattle.dns_signatures.specs.Signatures.{all_used, arithmetic_answers, limited_to}
use Rattle.dns_session_lookup.specs.declared.verification.Verification.{Verification}
use Rattle.dns_session_lookup.specs.declared.verification.Verification.TheVariants.{ByList, ByArithmetic}
use Rattle.dns_session_lookup.specs.declared.verification.SessionVerifier.{SessionVerifier}
use Rattle.dns_session_lookup.specs.declared.verification.SessionVerifier.TheVariants.{Listed, Computed}

-- what a session lists: algorithms that are supported, and signatures that are accepted
abbrev pub listing : List ℕ → List AcceptedSignatureValue → ListedValue
listing algorithms accepts = record { algorithms = algorithms; accepted = accepts }

-- `ByList`: the listed algorithms are supported and the listed signatures accepted, under algorithm 1 none. `ByArithmetic`: signatures
-- are computed, under those of the listed algorithms that can be
abbrev pub answers_by : Verification → List ℕ → List AcceptedSignatureValue → VerifierAnswers
answers_by ByList algorithms accepts = answers_of (listing algorithms accepts)
answers_by ByArithmetic algorithms accepts = arithmetic_answers (limited_to all_used algorithms)

-- what a session's verifier answers
abbrev pub session_answers : Verification → SessionValue → VerifierAnswers
session_answers how s = answers_by how s.algorithms s.accepts

-- what a verifier of either kind answers
abbrev pub verifier_answers : SessionVerifier → VerifierAnswers
verifier_answers (Listed listed) = answers_of listed
verifier_answers (Computed used) = arithmetic_answers used
