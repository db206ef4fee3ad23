use Rattle.std.proofs.Common.{◌≡◌, take}
use Rattle.std.specs.List.{filter}
use Rattle.dns_trust.specs.Judge.{judge_of}
use Rattle.dns_trust.specs.Delegating.{shown}
use Rattle.dns_trust.specs.Beside.{is_matched_only}
use Rattle.dns_trust.proofs.keys.matched_keys.Given as goal

-- the matched keys so far are shown
abbrev pub invariant-loop-key : goal.invariant-loop-key
invariant-loop-key g l =
    shown l.keys.items ≡ filter (is_matched_only (judge_of g.V.Verifier.answers l.judge) l.set l.ds.records)
    (take l.key-index l.set.records)
