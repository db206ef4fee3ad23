use Rattle.std.proofs.Common.{◌+◌, ◌≤◌, length}
use Rattle.dns_denial.specs.Counts.{steps_above}
use Rattle.dns_denial.proofs.Nsec3Enclosers.{IsLeft}
use Rattle.dns_denial.proofs.nsec3_encloser.nearest_match.Given as goal

-- the names below the one that is left were looked at, each by one hash and one question
abbrev pub invariant-names : goal.invariant-names
invariant-names g l = record {
  left : IsLeft l.by l.zone (g.R.Nsec3Records.records l.records) l.name l.next_closer l.closer_hash;
  steps : g.R.Nsec3Records.steps l.notes + steps_above (g.R.Nsec3Records.most_steps l.records) l.next_closer
      ≤ g.R.Nsec3Records.steps l.fn.notes + steps_above (g.R.Nsec3Records.most_steps l.records) l.name;
  hashes : g.R.Nsec3Records.hashes l.notes + length l.next_closer ≤ g.R.Nsec3Records.hashes l.fn.notes + length l.name;
}

abbrev pub decreases-names : goal.decreases-names
decreases-names g l = length l.next_closer
