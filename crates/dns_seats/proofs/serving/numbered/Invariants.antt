use Rattle.std.proofs.Common.{◌≡◌, map}
use Rattle.dns_seats.proofs.serving.numbered.Given as goal

abbrev pub invariant-loop-seat : goal.invariant-loop-seat
invariant-loop-seat g l = map (λ j. j.seat) l.jobs.items ≡ l.yielded
