-- For the calls of this crate, and for no promise of a check or a lookup: why a key may sign nothing, whatever its
-- algorithm: its flags and its protocol (RFC 4034, 2.1; RFC 5011, 2.1).
use Rattle.std.specs.Prelude.{not, ◌==◌, ◌&&◌, Option, None, Some, if◌then◌else◌}
use Rattle.dns_model.specs.Views.{DnskeyValue, is_zone_key, is_revoked}
use Rattle.dns_trust.specs.declared.usable.KeyFault.{KeyFault}
use Rattle.dns_trust.specs.declared.usable.KeyFault.TheVariants.{Revoked, NotZoneKey}

-- the first test that it fails; none where it may sign, if its algorithm is supported
abbrev pub fault_of : DnskeyValue → Option KeyFault
fault_of key =
    if is_revoked key then Some Revoked
    else if not (is_zone_key key && (key.protocol == 3)) then Some NotZoneKey
    else None
