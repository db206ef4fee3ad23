use Rattle.std.proofs.Common.{Some}
use Rattle.dns_bench_zones.specs.Benches.{OutOfMemory}
use Rattle.dns_bench_zones.proofs.bench.bench_over.Goals as goal

pub returns-in-Err : goal.returns-in-Err
returns-in-Err g c = OutOfMemory (Some c.args.handle)
