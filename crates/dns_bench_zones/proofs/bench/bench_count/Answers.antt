use Rattle.std.proofs.Common.{◌≤◌, subst, arith}
use Rattle.dns_recorded.specs.contracts.recorded.RecordedDnsHandle.TheImpl as recorded
use Rattle.dns_bench_zones.specs.Benches.{EndsBench}
use Rattle.dns_bench_zones.proofs.OwnLemmas.{memory_alone, own_count}
use Rattle.dns_bench_zones.proofs.bench.bench_count.Goals as goal

pub memory_alone-requires : goal.memory_alone-requires
memory_alone-requires c =
    let low : c.args.zones ≤ 100 = omega arith in
    let end = c.bench_over-end.result in
    memory_alone c.args.zones low end.handle end.result
    (subst (λ h. EndsBench recorded.ghosts c.args.zones h end.handle end.result) c.in_ok-handle.ensures
    c.bench_over-end.ensures)

pub returns : goal.returns
returns c =
    let low : c.args.zones ≤ 100 = omega arith in
    let end = c.bench_over-end.result in
    own_count c.args.zones low end.handle end.result c.memory_alone.result
    (subst (λ h. EndsBench recorded.ghosts c.args.zones h end.handle end.result) c.in_ok-handle.ensures
    c.bench_over-end.ensures)
    c.memory_alone.ensures
