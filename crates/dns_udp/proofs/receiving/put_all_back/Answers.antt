use Rattle.dns_udp.specs.Requests.{put_back}
use Rattle.dns_udp.proofs.ListLemmas.{map_over_at}
use Rattle.dns_udp.proofs.receiving.put_all_back.Goals as goal

pub loop-query-preserved : goal.loop-query-preserved
loop-query-preserved c =
    map_over_at (put_back c.args.original.now) c.args.queries.now c.loop-query.queries c.loop-query.query-index
    c.query-item.result c.put_back.new.query c.loop-query-test.true c.loop-query.invariant c.query-item.is
    c.in_ok-put_back.ensures
