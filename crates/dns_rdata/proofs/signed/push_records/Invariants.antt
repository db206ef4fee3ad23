use Rattle.std.proofs.Common.{◌≡◌, ◌++◌, map, length}
use Rattle.std.specs.List.{concat}
use Rattle.dns_model.specs.Bytes.{u16_bytes}
use Rattle.dns_rdata.proofs.signed.push_records.Given as goal

-- what was appended, and the records that are left
abbrev pub invariant-loop-rdata : goal.invariant-loop-rdata
invariant-loop-rdata l =
    l.into.items ++ concat (map (λ rdata. l.front ++ u16_bytes (length rdata) ++ rdata) l.rdata-iterator)
    ≡ l.fn.into.items ++ concat (map (λ rdata. l.front ++ u16_bytes (length rdata) ++ rdata) l.rdatas.keys)
