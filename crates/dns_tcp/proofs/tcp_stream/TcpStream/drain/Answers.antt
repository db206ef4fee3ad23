use Rattle.dns_tcp.proofs.DrainLemmas.{drain_answer, drain_written}
use Rattle.dns_tcp.proofs.tcp_stream.TcpStream.drain.Goals as goal

pub returns-clause-written : goal.returns-clause-written
returns-clause-written g c = drain_written _ _ _ _ _ _ c.drain.ensures

pub returns-clause-answer : goal.returns-clause-answer
returns-clause-answer g c = drain_answer _ _ _ _ _ _ c.drain.ensures
