-- Which NSEC record covers a name (RFC 4034, 4.1.1 and 6.1; RFC 4035, 5.4; RFC 6840, 4.1).
use Rattle.std.specs.Prelude.{ℕ, Bool, not, ◌&&◌, ◌||◌, List, Option, None, Some, if◌then◌else◌}
use Rattle.std.specs.List.{list_all, find, position}
use Rattle.std.specs.Ordering.{is_le}
use Rattle.dns_model.specs.Names.{Labels, name_cmp, before, at_or_above, strictly_above}
use Rattle.dns_model.specs.Owned.{OwnedNsec}
use Rattle.dns_rules.specs.ListedTypes.{ends_zone}

-- ---- the names between an owner and the next one

-- the last record of a zone leads back to the apex, which sorts at or before its owner (RFC 4034, 4.1.1)
abbrev pub leads_back : OwnedNsec → Bool
leads_back nsec = is_le (name_cmp nsec.fields.next nsec.owner)

-- the name comes after the owner and before the next owner; after the last owner, it is at or below the apex (RFC 4035, 5.4)
abbrev pub nsec_spans : Labels → OwnedNsec → Bool
nsec_spans name nsec = before nsec.owner name && (before name nsec.fields.next || (leads_back nsec && at_or_above nsec.fields.next name))

-- no record of the list that spans the name has an owner nearer to it
abbrev pub is_nearest : Labels → List OwnedNsec → OwnedNsec → Bool
is_nearest name nsecs nsec = list_all (λ other. not (nsec_spans name other && before nsec.owner other.owner)) nsecs

-- of the records that span the name, one with the greatest owner
abbrev pub counts_for : Labels → List OwnedNsec → OwnedNsec → Bool
counts_for name nsecs nsec = nsec_spans name nsec && is_nearest name nsecs nsec

-- ---- below a zone cut or a DNAME

-- the record tells nothing of the name: it is below the owner, which is a delegation or has DNAME (RFC 6840, 4.1)
abbrev pub is_silent_on : Labels → OwnedNsec → Bool
is_silent_on name nsec = strictly_above nsec.owner name && ends_zone nsec.fields.types

abbrev pub unless_silent : Labels → Option OwnedNsec → Option OwnedNsec
unless_silent name None = None
unless_silent name (Some nsec) = if is_silent_on name nsec then None else Some nsec

-- the record that covers the name: of those that span it the first with the greatest owner; where that one tells nothing
-- of the name, none
unfoldable pub nsec_covering : Labels → List OwnedNsec → Option OwnedNsec
nsec_covering name nsecs = unless_silent name (find (counts_for name nsecs) nsecs)

abbrev pub number_if_covered : Option ℕ → Option OwnedNsec → Option ℕ
number_if_covered number None = None
number_if_covered number (Some nsec) = number

-- the number of the record that covers the name, from 0
unfoldable pub covering_number : Labels → List OwnedNsec → Option ℕ
covering_number name nsecs = number_if_covered (position (counts_for name nsecs) nsecs) (nsec_covering name nsecs)
