use Rattle.std.proofs.Common.{◌≡◌, ◌+◌, ◌-◌}
use Rattle.dns_retry.specs.Retries.{SendsRequest}
use Rattle.dns_retry.specs.Telling.{still_told}
use Rattle.dns_retry.proofs.RetryLemmas.{Trying}
use Rattle.dns_retry.proofs.sending.send_again.Given as goal

-- the sends so far, and what is told still
abbrev pub invariant-sends : goal.invariant-sends
invariant-sends g l =
    Trying (SendsRequest g.H.DnsHandle l.request l.now) l.attempts-2 l.initial.handle l.handle l.attempts.left l.attempts.busy
    × (still_told (g.H.DnsHandle.told l.handle) ≡ still_told (g.H.DnsHandle.told l.initial.handle))

-- so many sends at most are left
abbrev pub decreases-sends : goal.decreases-sends
decreases-sends g l = l.attempts.left + (64 - l.attempts.busy)
