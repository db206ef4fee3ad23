use Rattle.std.proofs.Common.{arith}
use Rattle.std.specs.Prelude.{slice_range}
use Rattle.dns_message.proofs.RdataReading.{next_field, fields_more, fields_done}
use Rattle.dns_message.proofs.RdataStanding.{field_more, all_stand}
use Rattle.dns_message.proofs.plain_rdata.is_spelled.Goals as goal

pub loop-field-preserved : goal.loop-field-preserved
loop-field-preserved c =
    let l = c.loop-field in
    let bytes = c.args.bytes.now in
    let ends = c.in-Some.ensures in
    record {
      so_far = fields_more c.args.shape.now l.field-index _ bytes (slice_range bytes c.args.at l.pos)
          (slice_range bytes c.args.at c.in-Some.next) l.pos c.args.stop
          c.in-Some.next _ (next_field _ _ _ c.loop-field-test.true) (field_more _ _ _ _ _ _ l.invariant.rises ends) l.invariant.so_far;
      rises = omega (arith, l.invariant.rises, ends.rises);
      inside = ends.inside;
    }

pub returns : goal.returns
returns c same =
    let l = c.loop-field in
    let bytes = c.args.bytes.now in
    all_stand bytes c.args.at l.pos c.args.stop _ same
    (fields_done c.args.shape.now l.field-index bytes (slice_range bytes c.args.at l.pos) l.pos c.args.stop _
    c.loop-field-test.false l.invariant.so_far)
