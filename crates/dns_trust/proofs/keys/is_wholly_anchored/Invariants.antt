use Rattle.std.proofs.Common.{◌≡◌, true, take}
use Rattle.std.specs.List.{list_all}
use Rattle.dns_rules.specs.KeySets.{is_anchored_key}
use Rattle.dns_trust.specs.Judge.{judge_of}
use Rattle.dns_trust.proofs.keys.is_wholly_anchored.Given as goal

-- the keys so far are anchored
abbrev pub invariant-loop-key : goal.invariant-loop-key
invariant-loop-key g l =
    list_all (is_anchored_key (judge_of g.V.Verifier.answers l.judge) l.set) (take l.key-index l.set.records) ≡ true
