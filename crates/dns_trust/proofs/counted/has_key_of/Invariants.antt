use Rattle.std.proofs.Common.{◌≡◌, take, false}
use Rattle.std.specs.List.{list_any}
use Rattle.dns_rules.specs.Marks.{is_key_of_zone}
use Rattle.dns_trust.proofs.counted.has_key_of.Given as goal

-- none of the records so far is a key of the zone
abbrev pub invariant-loop-key : goal.invariant-loop-key
invariant-loop-key l = list_any (is_key_of_zone l.zone) (take l.key-index l.keys) ≡ false
