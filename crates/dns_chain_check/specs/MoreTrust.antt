-- Who accepts and trusts all that another does (RFC 4035, 4.4 and 5.3.3).
use Rattle.std.specs.Prelude.{ℕ, ◌≡◌, true, List}
use Rattle.dns_model.specs.Names.{Labels}
use Rattle.dns_model.specs.Keys.{VerifierAnswers, AnchorValue, holds_anchor}
use Rattle.dns_model.specs.Chains.{LinkValue, judge, justified}

-- a verifier supports and accepts all that another one does
pub record AnswersMore (less more : VerifierAnswers) : Type 0 where
  pub supports : (algorithm : ℕ) → less.supports algorithm ≡ true → more.supports algorithm ≡ true
  pub accepts : (algorithm : ℕ) (key bytes signature : List ℕ)
      → less.accepts algorithm key bytes signature ≡ true → more.accepts algorithm key bytes signature ≡ true

-- each key of some trust anchors is one of others too
abbrev pub TrustsMore : List AnchorValue → List AnchorValue → Type 0
TrustsMore less more =
    (owner : Labels) (algorithm : ℕ) (key : List ℕ) → holds_anchor less owner algorithm key ≡ true
    → holds_anchor more owner algorithm key ≡ true

-- a chain is justified for whoever accepts and trusts all that these do
abbrev pub HoldsForMore : VerifierAnswers → List AnchorValue → ℕ → List LinkValue → Type 0
HoldsForMore answers anchors now chain =
    (wider : VerifierAnswers) (more : List AnchorValue) → AnswersMore answers wider → TrustsMore anchors more
    → justified (judge wider more now) chain ≡ true
