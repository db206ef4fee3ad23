-- What a denial that is made from kept records promises of each zone in which they are true (RFC 8198, 4; RFC 4035, 5.4; RFC 5155, 8).
use Rattle.std.specs.Prelude.{ℕ, List, Option, None, Some}
use Rattle.dns_model.specs.Names.{Labels}
use Rattle.dns_model.specs.Records.{Question}
use Rattle.dns_rules.specs.Zones.{Zone}
use Rattle.dns_rules.specs.DenialInZones.{HasNone, IsShownBy}
use Rattle.dns_hashed_denial.specs.HashedDenial.{IsShownByHashes}
use Rattle.dns_rules.specs.Nsec3Verdict.{Parameters}
use Rattle.dns_aggressive.specs.Records.{KeptValue, StoreValue}
use Rattle.dns_aggressive.specs.Denials.{Decision, group, nsecs_in, nsec3s_in}

-- a well-formed zone with this apex, in which each record of a group is true; hashes tell apart the names that the denial is about
abbrev pub IsZoneOf : List KeptValue → Option Parameters → Labels → Labels → Zone → Type 0
IsZoneOf records None apex name zone = IsShownBy (nsecs_in records) apex zone
IsZoneOf records (Some way) apex name zone = IsShownByHashes (nsec3s_in records) name zone

-- in each zone in which the records of the group that decides are true there is no data for the query, and where the code is a name
-- error, its name doesn't exist. There is no premise on the type
abbrev pub IsDenial : StoreValue → Question → ℕ → Decision → Type 0
IsDenial store query now decision =
    (zone : Zone) → IsZoneOf (group now decision.zone store.kept decision.way) decision.way decision.zone query.owner zone
    → HasNone query decision.code zone
