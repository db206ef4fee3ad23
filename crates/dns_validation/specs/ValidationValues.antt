-- A validation as contracts see it: what stays the same over its asks, and how far it has come.
use Rattle.dns_validation.specs.Machine.{StateValue}
use Rattle.dns_validation.specs.declared.context.Context.{Context}

pub record ValidationValue (V : Type 0) : Type 0 where
  pub context : Context V
  pub state : StateValue
