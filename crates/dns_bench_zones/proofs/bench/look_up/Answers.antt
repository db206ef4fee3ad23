use Rattle.std.proofs.Common.{Some}
use Rattle.dns_bench_zones.specs.Benches.{OutOfMemory}
use Rattle.dns_bench_zones.proofs.bench.look_up.Goals as goal

pub returns-in_default : goal.returns-in_default
returns-in_default g c = λ n are. OutOfMemory (Some c.args.handle)
