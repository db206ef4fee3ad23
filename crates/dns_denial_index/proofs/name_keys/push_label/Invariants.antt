use Rattle.std.specs.Prelude.{◌≡◌, ◌++◌, map, take}
use Rattle.dns_denial_index.specs.NameKeys.{symbol}
use Rattle.dns_denial_index.proofs.name_keys.push_label.Given as goal

-- the bytes so far are appended
abbrev pub invariant-loop-byte : goal.invariant-loop-byte
invariant-loop-byte l = l.key.items ≡ l.fn.key.items ++ map symbol (take l.byte-index l.label)
