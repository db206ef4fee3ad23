use Rattle.std.proofs.Common.{rules}
use Rattle.dns_message.proofs.RdataReading.{next_field, fields_more, fields_none, fields_done}
use Rattle.dns_message.proofs.rdata.spells_fields.Goals as goal

pub returns-in-None-clause-fields : goal.returns-in-None-clause-fields
returns-in-None-clause-fields c =
    let a = rw c.in-None.is at c.in_ok-push_field.ensures.reads in
    fields_none c.args.shape.now c.loop-field.field-index _ c.args.message.now.bytes.now c.loop-field.room.items
    c.loop-field.pos c.args.stop _ (next_field _ _ _ c.loop-field-test.true) a c.loop-field.invariant.so_far

pub loop-field-preserved : goal.loop-field-preserved
loop-field-preserved c =
    let a = rw c.in-Some.is at c.in_ok-push_field.ensures.reads in
    record {
      so_far = fields_more c.args.shape.now c.loop-field.field-index _ c.args.message.now.bytes.now c.loop-field.room.items
          c.push_field.new.into.items c.loop-field.pos c.args.stop c.in-Some.next _ (next_field _ _ _ c.loop-field-test.true)
          a c.loop-field.invariant.so_far;
      fits = rw c.in-Some.is at c.in_ok-push_field.ensures.fits;
      known = search rules;
    }

pub returns-clause-fields : goal.returns-clause-fields
returns-clause-fields c =
    let l = c.loop-field in
    fields_done c.args.shape.now l.field-index c.args.message.now.bytes.now l.room.items l.pos c.args.stop _
    c.loop-field-test.false l.invariant.so_far
