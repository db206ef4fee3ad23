use Rattle.std.proofs.Common.{◌≡◌, take}
use Rattle.dns_cache.specs.KeyHashing.{short_word}
use Rattle.dns_cache.proofs.key_hasher.short_word.Given as goal

-- the bytes so far make the word
abbrev pub invariant-loop-byte : goal.invariant-loop-byte
invariant-loop-byte l = l.word ≡ short_word (take l.byte-index l.bytes)
