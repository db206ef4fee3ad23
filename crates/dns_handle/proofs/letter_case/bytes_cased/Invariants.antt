use Rattle.std.proofs.Common.{◌≡◌, ◌≤◌, [], take}
use Rattle.dns_handle.specs.LetterCase.{label_cased, letters}
use Rattle.dns_handle.proofs.letter_case.bytes_cased.Given as goal

-- the bytes so far, and how many letters are among them
abbrev pub invariant-loop-byte : goal.invariant-loop-byte
invariant-loop-byte l = record {
  cased : l.all.items ≡ label_cased l.bits [] (take l.byte-index l.bytes);
  counted : l.letters ≡ letters (take l.byte-index l.bytes);
  bounded : l.letters ≤ l.byte-index;
}
