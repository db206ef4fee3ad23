use Rattle.std.proofs.Common.{◌≡◌, length}
use Rattle.dns_shared_cache.specs.contracts.shared_cache.SharedCacheValidationCache.TheImpl as shared
use Rattle.dns_seats.specs.Serving.{Keeps}
use Rattle.dns_seats.proofs.serving.serve_seat.Given as goal

abbrev pub invariant-loop-next : goal.invariant-loop-next
invariant-loop-next g l = record {
  keeps : Keeps g.P.Port g.H.DnsHandle g.V.Verifier
      (shared.ghosts g.row.V g.row.S g.row.T g.row.S-Hasher g.V.Verifier g.V.Verifier-dict g.S.BuildHasher
      g.S.BuildHasher-dict g.S.Hasher.Hasher g.S.Hasher.Hasher-dict g.T.Wait g.T.Wait-dict g.T.Clone g.T.Clone-dict
      g.V.Destruct-dict g.S.Destruct-dict g.S.Hasher.Destruct-dict)
      l.initial.seat l.seat l.exchanges.items;
  number : length l.exchanges.items ≡ l.next;
}
