use Rattle.dns_udp.proofs.receiving.judge_front.Goals as goal

pub returns : goal.returns
returns c = rw c.split_at.ensures.front at c.judge.ensures
