use Rattle.dns_aggressive.proofs.StayingRecords.{IsPacked}
use Rattle.dns_aggressive.proofs.staying.to_front.Given as goal

abbrev pub invariant-loop-place : goal.invariant-loop-place
invariant-loop-place l = IsPacked l.flags l.initial.list l.list l.stayed l.place
