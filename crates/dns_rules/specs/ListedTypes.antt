-- What the types that an NSEC or NSEC3 record lists say of its owner (RFC 4034, 4.1.2; RFC 5155, 3.2.1; RFC 6840, 4).
use Rattle.std.specs.Prelude.{ℕ, Bool, true, false, not, ◌==◌, ◌&&◌, ◌||◌, List, if◌then◌else◌}
use Rattle.dns_model.specs.Shapes.{bitmap_has}
use Rattle.dns_model.specs.Types.{type_ns, type_soa, type_cname, type_ds, type_dname, type_rrsig, type_nsec, code_no_error}
use Rattle.dns_model.specs.declared.answered.Answered.{Answered}
use Rattle.dns_model.specs.declared.answered.Answered.TheVariants.{No}

-- NSEC and RRSIG stand at the owner of each NSEC record, so their bits tell nothing (RFC 4035, 2.2 and 2.3)
abbrev pub is_at_every_owner : ℕ → Bool
is_at_every_owner rtype = (rtype == type_nsec) || (rtype == type_rrsig)

-- the type stands at the owner (RFC 4034, 4.1.2)
abbrev pub has_type : ℕ → List ℕ → Bool
has_type rtype types = bitmap_has types rtype && not (is_at_every_owner rtype)

-- the record stands above a zone cut: its owner is a delegation, and no apex (RFC 6840, 4.1)
abbrev pub is_cut : List ℕ → Bool
is_cut types = has_type type_ns types && not (has_type type_soa types)

-- nothing of the owner's zone stands below it: it is a delegation or has DNAME (RFC 6840, 4.1; RFC 5155, 8.3)
abbrev pub ends_zone : List ℕ → Bool
ends_zone types = is_cut types || has_type type_dname types

-- the owner is a delegation to a zone that isn't signed: NS is there, DS and SOA aren't (RFC 4035, 5.2; RFC 5155, 8.9)
abbrev pub is_unsigned_cut : List ℕ → Bool
is_unsigned_cut types = bitmap_has types type_ns && (not (bitmap_has types type_ds) && not (bitmap_has types type_soa))

-- ---- a record at the name

-- the type isn't at the owner, nor a CNAME that would stand for it (RFC 4035, 5.4; RFC 6840, 4.3)
abbrev pub lacks_data : ℕ → List ℕ → Bool
lacks_data rtype types = not (has_type rtype types || has_type type_cname types)

-- the record is of the zone that answers for the type: the one above a zone cut for DS and no other type, the one below it
-- for all others (RFC 6840, 4.1 and 4.4; RFC 4035, 5.2)
abbrev pub is_right_side : ℕ → List ℕ → Bool
is_right_side rtype types = if rtype == type_ds then not (has_type type_soa types) else not (is_cut types)

abbrev pub denies_at_owner : ℕ → List ℕ → Bool
denies_at_owner rtype types = lacks_data rtype types && is_right_side rtype types

abbrev pub is_unanswered : Answered → Bool
is_unanswered No = true
is_unanswered _ = false

-- the name has a record: it exists, so only its data can be denied (RFC 4035, 5.4; RFC 5155, 8.5 and 8.6)
abbrev pub proved_by_owner : ℕ → ℕ → Answered → List ℕ → Bool
proved_by_owner rtype code answered types =
    is_unanswered answered && ((code == code_no_error) && denies_at_owner rtype types)

-- ---- a record at the wildcard

-- nothing at the wildcard answers for the type, and it is no delegation and has no DNAME (RFC 4592, 4.2 and 4.4)
abbrev pub wildcard_lacks : ℕ → List ℕ → Bool
wildcard_lacks rtype types = lacks_data rtype types && not (has_type type_ns types || has_type type_dname types)
