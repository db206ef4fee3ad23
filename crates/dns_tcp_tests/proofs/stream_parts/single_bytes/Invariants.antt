use Rattle.std.proofs.Common.{◌≢◌, [], All}
use Rattle.dns_tcp_tests.proofs.stream_parts.single_bytes.Given as goal

abbrev pub invariant-loop-byte : goal.invariant-loop-byte
invariant-loop-byte g l = All (λ piece. piece ≢ []) l.pieces.items
