use Rattle.dns_query_run.proofs.SinkLemmas.{says_so}
use Rattle.dns_query_run.proofs.unwritten.say.Goals as goal

pub returns-clause-says : goal.returns-clause-says
returns-clause-says g c = says_so _ _ c.write_whole.result c.write_whole.ensures.whole c.write_whole.ensures.cut
