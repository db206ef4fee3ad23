use Rattle.std.proofs.Common.{◌≡◌, take, false}
use Rattle.std.specs.Prelude.{◌&&◌}
use Rattle.std.specs.List.{list_any}
use Rattle.dns_rules.specs.Nsec3Covering.{nsec3_matches}
use Rattle.dns_rules.specs.ListedTypes.{wildcard_lacks}
use Rattle.dns_denial.proofs.nsec3_records.some_denies.Given as goal

-- none of the records so far shows it
abbrev pub invariant-loop-nsec3 : goal.invariant-loop-nsec3
invariant-loop-nsec3 l =
    list_any (λ nsec3. nsec3_matches l.wildcard nsec3 && wildcard_lacks l.record_type.0 nsec3.fields.types)
    (take l.nsec3-index l.nsec3s) ≡ false
