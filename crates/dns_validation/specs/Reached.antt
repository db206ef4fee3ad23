-- For private functions of this crate only: where a validation can stand.
use Rattle.std.specs.Prelude.{◌⊎◌, List}
use Rattle.std.specs.BTreeMap.{BTreeMap}
use Rattle.dns_model.specs.Keys.{VerifierAnswers}
use Rattle.dns_model.specs.SoundAnswers.{ChainValue}
use Rattle.dns_rules.specs.CacheEntries.{EntryValue}
use Rattle.dns_rules.specs.CacheKeys.{CacheKeyValue}
use Rattle.dns_validation.specs.AcceptedChains.{AreAccepted}
use Rattle.dns_validation.specs.Machine.{Terms, StateValue}
use Rattle.dns_validation.specs.Runs.{Sent, Run, IsOut}
use Rattle.dns_validation.specs.Terms.{terms_of}
use Rattle.dns_validation.specs.declared.context.Context.{Context}

-- some run comes to the state
pub record IsReached (t : Terms) (s : StateValue) : Type 0 where
  pub cached : List EntryValue
  pub sends : List Sent
  pub run : Run t cached sends s

-- memory ran out, or a run comes to the state; and the verifier accepts the chains that are remembered
pub record IsSound {V : Type 0} (answers : V → VerifierAnswers) (context : Context V) (s : StateValue)
    (chains : BTreeMap CacheKeyValue ChainValue) : Type 0 where
  pub stands : IsOut s ⊎ IsReached (terms_of answers context) s
  pub accepted : AreAccepted (terms_of answers context).judge.answers chains
