use Rattle.std.proofs.Common.{◌≡◌, ◌++◌, take}
use Rattle.std.specs.List.{filter}
use Rattle.dns_rules.specs.Validity.{is_good_but_for_revoke}
use Rattle.dns_trust.specs.Judge.{judge_of}
use Rattle.dns_trust.specs.Delegating.{shown}
use Rattle.dns_trust.specs.SetSignatures.{IsBuilt}
use Rattle.dns_anchor_roll.proofs.examining.add_signed.Given as goal

-- those so far are added
abbrev pub invariant-loop-form : goal.invariant-loop-form
invariant-loop-form g l =
    (shown l.signed.items ≡ shown l.initial.signed.items
    ++ filter (is_good_but_for_revoke (judge_of g.V.Verifier.answers l.judge) l.set l.sig) (take l.form-index (shown l.forms)))
    × IsBuilt l.signature l.built
