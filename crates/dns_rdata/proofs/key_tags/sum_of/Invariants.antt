use Rattle.std.proofs.Common.{◌≡◌, ◌+◌, ◌%◌, ◌^◌, length}
use Rattle.dns_model.specs.Signing.{tag_sum}
use Rattle.dns_rdata.proofs.key_tags.sum_of.Given as goal

-- the sum so far and that of the rest make the whole sum
abbrev pub invariant-loop-rest : goal.invariant-loop-rest
invariant-loop-rest l = (l.sum + tag_sum l.rest) % 2 ^ 32 ≡ tag_sum l.key % 2 ^ 32

abbrev pub decreases-loop-rest : goal.decreases-loop-rest
decreases-loop-rest l = length l.rest
