use Rattle.std.proofs.Common.{◌∙◌, ◌++◌, sym, ap}
use Rattle.std.proofs.lemmas.List.Folds.{flat_map-map}
use Rattle.dns_message.specs.WrittenAs.{record_bytes}
use Rattle.dns_message.proofs.Writing.{pieces_more, pieces_all}
use Rattle.dns_message.proofs.message_writer.push_records.Goals as goal

pub loop-record-preserved : goal.loop-record-preserved
loop-record-preserved c =
    pieces_more (λ r. record_bytes r.now) c.args.records.now c.loop-record.record-index _ c.args.out.now.items _ _
    c.loop-record-test.true c.record-item.is c.loop-record.invariant c.in_ok-push_record.ensures

pub returns : goal.returns
returns c =
    pieces_all (λ r. record_bytes r.now) c.args.records.now c.loop-record.record-index c.args.out.now.items _
    c.loop-record-test.false c.loop-record.invariant
    ∙ ap (λ bytes. c.args.out.now.items ++ bytes) (sym (flat_map-map record_bytes (λ r. r.now) c.args.records.now))
