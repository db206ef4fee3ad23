use Rattle.std.proofs.Common.{◌≡◌, ◌++◌, map, take}
use Rattle.dns_roll.specs.TrustedText.{texts_of}
use Rattle.dns_roll.proofs.naming.push_records.Given as goal

-- those of the records so far are added
abbrev pub invariant-loop-next : goal.invariant-loop-next
invariant-loop-next l =
    texts_of l.into.items ≡ texts_of l.initial.into.items ++ take l.next-index (map (λ r. r.rdata) l.records)
