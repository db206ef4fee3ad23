-- What NSEC records say of a name: the record that it owns, or the one that covers it (RFC 4035, 5.4).
use Rattle.std.specs.Prelude.{Option, None, Some}
use Rattle.dns_model.specs.Owned.{OwnedNsec}
use Rattle.dns_denial.specs.declared.nsec_records.NsecFind.{NsecFind}
use Rattle.dns_denial.specs.declared.nsec_records.NsecFind.TheVariants.{Owned, Covered}

-- the record that the name owns, where one was found
abbrev pub owned : NsecFind → Option OwnedNsec
owned (Owned nsec) = Some nsec.now
owned _ = None

-- the record that covers the name, where one was found
abbrev pub covered : NsecFind → Option OwnedNsec
covered (Covered nsec) = Some nsec.now
covered _ = None
