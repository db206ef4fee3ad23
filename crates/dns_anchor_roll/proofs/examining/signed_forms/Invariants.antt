use Rattle.std.proofs.Common.{◌≡◌, take}
use Rattle.std.specs.List.{filter, flat_map}
use Rattle.dns_rules.specs.Validity.{is_good_but_for_revoke}
use Rattle.dns_trust.specs.Judge.{judge_of}
use Rattle.dns_trust.specs.Delegating.{shown}
use Rattle.dns_anchor_roll.proofs.examining.signed_forms.Given as goal

-- those by the signatures so far
abbrev pub invariant-loop-signature : goal.invariant-loop-signature
invariant-loop-signature g l =
    shown l.signed.items ≡ flat_map
    (λ sig. filter (is_good_but_for_revoke (judge_of g.V.Verifier.answers l.judge) l.set sig) (shown l.forms))
    (take l.signature-index (shown l.signatures))
