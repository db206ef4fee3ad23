-- For private functions of this crate only: by what the links of a chain are judged (RFC 4035, 5.3).
use Rattle.std.specs.Prelude.{ℕ, Bool, true, List, Option, None, Some, is_some}
use Rattle.dns_model.specs.Names.{Labels}
use Rattle.dns_model.specs.Views.{RrsigValue, dnskey_in}
use Rattle.dns_model.specs.Serial.{timely}
use Rattle.dns_model.specs.Keys.{VerifierAnswers, anchored}
use Rattle.dns_model.specs.Chains.{Judge}
use Rattle.dns_chain_check.specs.declared.link_judge.Trust.{Trust}
use Rattle.dns_chain_check.specs.declared.link_judge.LinkJudge.{LinkJudge}

-- a chain may start with this key: it is trusted, or where nobody says which keys are, it can be read
abbrev pub starts_with : Option Trust → Labels → List ℕ → Bool
starts_with None owner key = is_some (dnskey_in key)
starts_with (Some trust) owner key = anchored trust.anchors.now owner key

-- the signature counts at the moment, or at any
abbrev pub counts_at : Option Trust → RrsigValue → Bool
counts_at None sig = true
counts_at (Some trust) sig = timely sig trust.moment

-- with `None` the judge of a verifier alone, else that of a verifier, trusted keys and a moment
abbrev pub judge_with : VerifierAnswers → Option Trust → Judge
judge_with answers trust = record {
  answers = answers;
  is_anchored = λ owner key. starts_with trust owner key;
  is_timely = λ sig. counts_at trust sig;
}

abbrev pub link_judge : {V : Type 0} → (V → VerifierAnswers) → LinkJudge V → Judge
link_judge answers given = judge_with (answers given.verifier.now) given.trust
