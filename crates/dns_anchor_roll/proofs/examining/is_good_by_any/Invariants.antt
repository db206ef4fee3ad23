use Rattle.std.proofs.Common.{◌≡◌, take, false}
use Rattle.std.specs.List.{list_any}
use Rattle.dns_trust.specs.Judge.{judge_of}
use Rattle.dns_trust.specs.Delegating.{shown}
use Rattle.dns_rules.specs.Validity.{is_good_by}
use Rattle.dns_anchor_roll.proofs.examining.is_good_by_any.Given as goal

-- by none so far
abbrev pub invariant-loop-key : goal.invariant-loop-key
invariant-loop-key g l =
    list_any (is_good_by (judge_of g.V.Verifier.answers l.judge) l.set l.signature) (take l.key-index (shown l.keys)) ≡ false
