use Rattle.std.specs.Prelude.{length}
use Rattle.dns_rules.specs.ListedTypes.{wildcard_lacks}
use Rattle.dns_rules.specs.Nsec3Covering.{nsec3_matches}
use Rattle.dns_denial_index.specs.NsecParts.{IsWalked, left_of}
use Rattle.dns_denial_index.proofs.nsec3_index.Nsec3Index.wildcard_denies.Given as goal

-- the records so far that match the hash don't show it
abbrev pub invariant-matching : goal.invariant-matching
invariant-matching g l =
    IsWalked (nsec3_matches l.wildcard) (λ nsec3. wildcard_lacks l.record_type.0 nsec3.fields.types) l.self l.next

abbrev pub decreases-matching : goal.decreases-matching
decreases-matching g l = left_of (length l.self) l.next
