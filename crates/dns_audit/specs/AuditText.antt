-- What an audit answers (RFC 4035, 4.3, 5.2 and 5.3): for each chain of a report whether it is justified, by its number from 0, and for
-- its trail, where it has one, whether that is a derivation.
use Rattle.std.specs.Prelude.{ℕ, ◌+◌, Bool, true, false, List, [], ◌∷◌, ◌++◌, codes, Option, None, Some}
use Rattle.std.specs.Fmt.{decimal}
use Rattle.dns_model.specs.Chains.{Judge, justified}
use Rattle.dns_model.specs.SoundAnswers.{ChainValue}
use Rattle.dns_model.specs.Trails.{AskedValue}
use Rattle.dns_rules.specs.Asking.{Limits}
use Rattle.dns_rules.specs.Derivation.{derivation}
use Rattle.dns_audit.specs.ReportValue.{ReportValue}

-- the word of an answer
abbrev pub answer_word : Bool → List ℕ
answer_word true = codes "yes"
answer_word false = codes "no"

-- `chain N yes` or `chain N no`
abbrev pub chain_answer : ℕ → Bool → List ℕ
chain_answer number holds = codes "chain " ++ (decimal number ++ (32 ∷ (answer_word holds ++ 10 ∷ [])))

-- a line for each chain, in order, with their numbers from this one on
unfoldable pub chain_answers : Judge → ℕ → List ChainValue → List ℕ
chain_answers j number [] = []
chain_answers j number (chain ∷ chains) = chain_answer number (justified j chain.links) ++ chain_answers j (number + 1) chains

-- `trail yes` or `trail no`, where there is a trail; it is judged with no entry of a cache from before, within these limits
abbrev pub trail_answer : Judge → Limits → Option (List AskedValue) → List ℕ
trail_answer j limits None = []
trail_answer j limits (Some trail) = codes "trail " ++ (answer_word (derivation j limits [] trail) ++ 10 ∷ [])

-- all lines; none for a report without chains and without a trail
unfoldable pub audit_text : Judge → Limits → ReportValue → List ℕ
audit_text j limits report = chain_answers j 0 report.chains ++ trail_answer j limits report.trail
