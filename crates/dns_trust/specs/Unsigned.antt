-- For private functions of this crate only: what unsupported DS records leave to the unsigned sets of their zone (RFC 4035, 5.2).
use Rattle.std.specs.Prelude.{List, if◌then◌else◌}
use Rattle.std.specs.List.{list_any}
use Rattle.dns_model.specs.declared.proof.Proof.{Proof}
use Rattle.dns_model.specs.declared.proof.Proof.TheVariants.{Insecure, Bogus}
use Rattle.dns_model.specs.Records.{Rr}
use Rattle.dns_rules.specs.Delegations.{is_readable_ds}

-- where one of them can be read, the zone can't be judged
abbrev pub unsupported_mark : List Rr → Proof
unsupported_mark records = if list_any is_readable_ds records then Insecure else Bogus
