use Rattle.std.proofs.Common.{◌+◌, length, slice_range, ap, ◌∙◌, arith}
use Rattle.std.specs.Arc.{arc_value}
use Rattle.dns_record.proofs.Parts.{part_of_part}
use Rattle.dns_record.proofs.octets.block_part.BlockPart.part.Goals as goal

pub returns : goal.returns
returns c =
    let p = c.self.inside in
    ap (λ v. slice_range v.items (p.start + c.args.start) (p.start + c.args.end)) c.in_ok-block.ensures
    ∙ part_of_part (arc_value p.block).items p.start p.end c.args.start c.args.end c.self.invariant.0 c.self.invariant.1 c.requires.rises
    (omega (arith, c.requires.inside, ap length c.self.view_is))
    ∙ ap (λ xs. slice_range xs c.args.start c.args.end) c.self.view_is
