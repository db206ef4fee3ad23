-- For private functions alone: the code and the ttl that groups of NSEC3 records give.
use Rattle.std.specs.Prelude.{ℕ, List, map, Option, None, Some, option_map}
use Rattle.dns_model.specs.Names.{Labels}
use Rattle.dns_model.specs.Records.{Question}
use Rattle.dns_rules.specs.Nsec3Verdict.{Parameters}
use Rattle.dns_aggressive.specs.Records.{KeptValue}
use Rattle.dns_aggressive.specs.Denials.{Decision, decided_among, group, seconds_left, shown_code}

abbrev pub code_and_ttl : List KeptValue → ℕ → Decision → ℕ × ℕ
code_and_ttl kept now decision = (decision.code, seconds_left now (group now decision.zone kept decision.way))

-- those that the group of NSEC records shows
abbrev pub named_answer : List KeptValue → Question → ℕ → Labels → Option (ℕ × ℕ)
named_answer kept query now zone =
    option_map (λ code. (code, seconds_left now (group now zone kept None))) (shown_code kept query now zone None)

-- those of the first group that shows a code
abbrev pub hashed_answer : List KeptValue → Question → ℕ → Labels → List Parameters → Option (ℕ × ℕ)
hashed_answer kept query now zone ways =
    option_map (code_and_ttl kept now) (decided_among kept query now zone (map Some ways))
