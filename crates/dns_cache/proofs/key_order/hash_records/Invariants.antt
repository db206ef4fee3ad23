use Rattle.std.proofs.Common.{◌≡◌, drop}
use Rattle.dns_cache.proofs.FeedLemmas.{fed_records}
use Rattle.dns_cache.proofs.key_order.hash_records.Given as goal

-- the hasher goes on with the records that are left
abbrev pub invariant-loop-record : goal.invariant-loop-record
invariant-loop-record g l =
    fed_records g.H.Hasher.write l.state (drop l.record-index l.records) ≡ fed_records g.H.Hasher.write l.initial.state l.records
