use Rattle.std.proofs.Common.{◌≡◌, map, drop}
use Rattle.dns_model.specs.Shapes.{canonical_form}
use Rattle.dns_model.specs.Signing.{rising_once}
use Rattle.dns_rdata.proofs.signed.rising_rdatas.Given as goal

-- the rdatas from the index on stand in their order
abbrev pub invariant-loop-index : goal.invariant-loop-index
invariant-loop-index l = l.rising.keys ≡ rising_once (map (canonical_form l.record_type.0) (drop l.index l.rdatas))
