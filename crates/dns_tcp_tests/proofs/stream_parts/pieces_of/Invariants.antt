use Rattle.std.proofs.Common.{◌≢◌, [], All}
use Rattle.dns_tcp_tests.proofs.stream_parts.pieces_of.Given as goal

abbrev pub invariant-loop-part : goal.invariant-loop-part
invariant-loop-part g l = All (λ piece. piece ≢ []) l.pieces.items
