-- Causes of the code as the definitions have them.
use Rattle.std.specs.Prelude.{List, map, Option, Vec}
use Rattle.std.specs.Option.{option_map}
use Rattle.dns_rules.specs.ProofErrors.{ProofErrorKindValue}
use Rattle.dns_cache.specs.Kinds.{kind_value}
use Rattle.dns_cache.specs.declared.proof_error.ProofErrorKind.{ProofErrorKind}

-- those of a step's sets
abbrev pub kinds_of : List (Option ProofErrorKind) → List (Option ProofErrorKindValue)
kinds_of causes = map (option_map kind_value) causes

-- those of a trail's steps
abbrev pub kinds_by_step : {Z : Type 0} → List (Vec (Option ProofErrorKind) Z) → List (List (Option ProofErrorKindValue))
kinds_by_step causes = map (λ found. kinds_of found.items) causes
