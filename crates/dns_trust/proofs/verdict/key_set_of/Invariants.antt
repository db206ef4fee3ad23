use Rattle.std.proofs.Common.{◌≡◌, drop}
use Rattle.std.specs.List.{find}
use Rattle.dns_rules.specs.Marks.{is_key_set_of}
use Rattle.dns_trust.proofs.verdict.key_set_of.Given as goal

-- the search goes on among the sets that are left
abbrev pub invariant-loop-chained : goal.invariant-loop-chained
invariant-loop-chained l =
    find (λ c. is_key_set_of l.class.0 l.signer c.judged) (drop l.chained-index l.sets)
    ≡ find (λ c. is_key_set_of l.class.0 l.signer c.judged) l.sets
