use Rattle.std.proofs.Common.{◌≡◌, take}
use Rattle.std.specs.List.{filter}
use Rattle.dns_rules.specs.KeySets.{is_anchored_key}
use Rattle.dns_trust.specs.Judge.{judge_of}
use Rattle.dns_trust.specs.Delegating.{shown}
use Rattle.dns_trust.proofs.keys.anchored_keys.Given as goal

-- the anchored keys so far are shown
abbrev pub invariant-loop-key : goal.invariant-loop-key
invariant-loop-key g l =
    shown l.keys.items ≡ filter (is_anchored_key (judge_of g.V.Verifier.answers l.judge) l.set) (take l.key-index l.set.records)
