-- Sets as keys: owner and type (RFC 2181, 5), and the owner with its letters folded (RFC 1034, 3.1).
use Rattle.std.specs.Prelude.{ℕ}
use Rattle.std.specs.declared.cmp.Ordering.{Ordering}
use Rattle.std.specs.Ordering.{nat_cmp, ordering_then}
use Rattle.std.specs.Cmp.{IsTotalOrder, then_total, on_total, nat_cmp_total}
use Rattle.std.specs.Cmp.Lexicographic.{slice_cmp, nat_list_cmp_total}
use Rattle.dns_model.specs.Names.{Labels, folded, wire}
use Rattle.dns_outcome.specs.declared.set_key.SetKey.{SetKey}

-- an owner and type as a key: the wire form of the owner with A to Z as a to z (RFC 4343, 3), and the type
abbrev pub set_key : Labels → ℕ → SetKey
set_key owner rtype = record { owner = wire (folded owner); record_type = rtype }

-- keys in order: by the bytes of the owner, then by type
abbrev pub set_key_cmp : SetKey → SetKey → Ordering
set_key_cmp a b = ordering_then (slice_cmp nat_cmp a.owner b.owner) (nat_cmp a.record_type b.record_type)

-- keys are in a total order
pub set_key_total : IsTotalOrder set_key_cmp
set_key_total = then_total (on_total (λ k. k.owner) nat_list_cmp_total) (on_total (λ k. k.record_type) nat_cmp_total)
