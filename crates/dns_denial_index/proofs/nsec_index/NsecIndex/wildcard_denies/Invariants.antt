use Rattle.std.specs.Prelude.{length}
use Rattle.dns_rules.specs.ListedTypes.{wildcard_lacks}
use Rattle.dns_rules.specs.NsecVerdict.{is_owned_by}
use Rattle.dns_denial_index.specs.NsecParts.{IsWalked, left_of}
use Rattle.dns_denial_index.proofs.nsec_index.NsecIndex.wildcard_denies.Given as goal

-- the wildcard's records so far don't show it
abbrev pub invariant-owned : goal.invariant-owned
invariant-owned g l =
    IsWalked (is_owned_by l.wildcard) (λ nsec. wildcard_lacks l.record_type.0 nsec.fields.types) l.self l.next

abbrev pub decreases-owned : goal.decreases-owned
decreases-owned g l = left_of (length l.self) l.next
