use Rattle.dns_tcp.proofs.CauseLemmas.{feed_answer}
use Rattle.dns_tcp.proofs.tcp_stream.TcpStream.feed.Goals as goal

pub returns-clause-answer : goal.returns-clause-answer
returns-clause-answer g c = feed_answer _ _ _ _ _ _ c.feed.ensures.fed
