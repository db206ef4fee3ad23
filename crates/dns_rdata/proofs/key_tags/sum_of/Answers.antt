use Rattle.std.proofs.Common.{arith}
use Rattle.dns_rdata.proofs.TagLemmas.{sum_two, sum_one, sum_none}
use Rattle.dns_rdata.proofs.key_tags.sum_of.Goals as goal

pub loop-rest-preserved : goal.loop-rest-preserved
loop-rest-preserved c = let e = sum_two c.loop-rest.rest.now (omega arith) in omega arith

pub returns-in-len1 : goal.returns-in-len1
returns-in-len1 c = let e = sum_one c.loop-rest.rest.now (omega arith) (omega arith) in omega arith

pub returns-in_default-rest : goal.returns-in_default-rest
returns-in_default-rest c = let e = sum_none c.loop-rest.rest.now (omega arith) in omega arith
