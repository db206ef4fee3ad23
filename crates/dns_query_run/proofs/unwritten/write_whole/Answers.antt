use Rattle.dns_query_run.proofs.SinkLemmas.{cut_short}
use Rattle.dns_query_run.proofs.unwritten.write_whole.Goals as goal

pub returns-clause-cut : goal.returns-clause-cut
returns-clause-cut g c =
    cut_short _ _ c.write_all.result c.write_all.ensures.failed c.write_all.ensures.memory c.write_all.ensures.prefix
