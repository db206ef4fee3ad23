use Rattle.std.proofs.Common.{◌≤◌, ◌++◌, length, ap, arith, length-append}
use Rattle.dns_model.specs.Names.{wire}
use Rattle.dns_record.proofs.ReadSteps.{run_form, run_name}
use Rattle.dns_record.proofs.text_reading.name_of_run.Goals as goal

pub from_octets-requires : goal.from_octets-requires
from_octets-requires c =
    let small : length (c.args.wire.items ++ wire c.args.above.now) ≤ 255 =
    omega (arith, length-append c.args.wire.items (wire c.args.above.now), ap length c.wire-above.ensures.value) in
    rw (c.from_vec.ensures, c.in_ok-extend_from_slice.ensures.items, c.wire-above.ensures.value)
    (run_form c.args.wire.items c.args.above.now c.requires c.wire-above.ensures.name small)

pub returns : goal.returns
returns c = λ labels run.
    let small : length (c.args.wire.items ++ wire c.args.above.now) ≤ 255 =
    omega (arith, length-append c.args.wire.items (wire c.args.above.now), ap length c.wire-above.ensures.value) in
    rw (c.from_octets.ensures, c.from_vec.ensures, c.in_ok-extend_from_slice.ensures.items, c.wire-above.ensures.value)
    (run_name c.args.wire.items c.args.above.now labels run c.wire-above.ensures.name small)
