use Rattle.std.proofs.Common.{◌≡◌, ◌++◌, map, take, drop}
use Rattle.dns_udp.specs.Requests.{put_back}
use Rattle.dns_udp.proofs.receiving.put_all_back.Given as goal

abbrev pub invariant-loop-query : goal.invariant-loop-query
invariant-loop-query l =
    l.queries ≡ map (put_back l.original) (take l.query-index l.initial.queries) ++ drop l.query-index l.initial.queries
