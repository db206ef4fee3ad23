use Rattle.std.proofs.Common.{◌≢◌, [], All}
use Rattle.dns_trial.proofs.cuts.single_bytes.Given as goal

abbrev pub invariant-loop-byte : goal.invariant-loop-byte
invariant-loop-byte l = All (λ piece. piece ≢ []) l.pieces.items
