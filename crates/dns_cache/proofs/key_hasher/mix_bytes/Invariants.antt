use Rattle.std.proofs.Common.{◌≡◌, length}
use Rattle.dns_cache.specs.KeyHashing.{words_mixed, bytes_mixed}
use Rattle.dns_cache.proofs.key_hasher.mix_bytes.Given as goal

-- the words that are left lead to the state that is sought
abbrev pub invariant-words : goal.invariant-words
invariant-words l = words_mixed (length l.bytes) l.state l.rest ≡ bytes_mixed l.before l.bytes

abbrev pub decreases-words : goal.decreases-words
decreases-words l = length l.rest
