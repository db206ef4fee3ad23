use Rattle.std.proofs.Common.{◌∙◌, ap, map}
use Rattle.dns_model.specs.Records.{Rr}
use Rattle.dns_roll.proofs.Listing.{made_at, made_within, put_more}
use Rattle.dns_roll.proofs.naming.push_records.Goals as goal

pub loop-next-preserved : goal.loop-next-preserved
loop-next-preserved c =
    let rdata = λ (r : Rr). r.rdata in
    let records = c.args.records.now in
    let i = c.loop-next.next-index in
    put_more c.args.into.now.items c.loop-next.into.items c.push.new.self.items (map rdata records) i
    c.next-item.result.rdata c.as_slice.result (made_within rdata records i c.loop-next-test.true)
    (made_at rdata records i c.next-item.result c.next-item.is) (c.as_slice.ensures.bytes ∙ ap rdata c.next.view_is)
    c.loop-next.invariant c.in_ok-push.ensures.items
