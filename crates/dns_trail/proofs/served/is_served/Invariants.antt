use Rattle.std.proofs.Common.{◌≡◌, length}
use Rattle.std.specs.List.{list_any}
use Rattle.dns_evidence.specs.Finding.{passes_at}
use Rattle.dns_rules.specs.CacheEntries.{live}
use Rattle.dns_rules.specs.Derivation.{is_served_by}
use Rattle.dns_trust.specs.Judge.{judge_of}
use Rattle.dns_trail.specs.Entries.{serves_at}
use Rattle.dns_trail.proofs.served.is_served.Given as goal

-- the places that are left decide
abbrev pub invariant-kept : goal.invariant-kept
invariant-kept g l =
    let j = judge_of g.V.Verifier.answers l.context.judge.now in
    let kept = l.context.cached.now in
    list_any (passes_at (serves_at l.context.judge.now.moment j l.context.query.now l.placed l.entry) kept) l.left
    ≡ list_any (is_served_by j l.context.query.now l.placed l.entry) (live l.context.judge.now.moment kept)

abbrev pub decreases-kept : goal.decreases-kept
decreases-kept g l = length l.left
