use Rattle.std.proofs.Common.{◌≡◌, ◌++◌, map, take}
use Rattle.dns_roll.specs.TrustedText.{texts_of}
use Rattle.dns_roll.proofs.naming.push_given.Given as goal

-- those of the keys so far are added
abbrev pub invariant-loop-key : goal.invariant-loop-key
invariant-loop-key l = texts_of l.into.items ≡ texts_of l.initial.into.items ++ take l.key-index l.keys
