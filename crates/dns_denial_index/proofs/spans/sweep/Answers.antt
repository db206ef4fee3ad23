use Rattle.std.proofs.Common.{◌+◌, ◌<◌, length, sym, ◌∙◌}
use Rattle.dns_denial_index.specs.Stack.{Stands}
use Rattle.dns_denial_index.proofs.Stack.{swept_begun, swept_further, counting_more}
use Rattle.dns_denial_index.proofs.spans.sweep.Goals as goal
use Rattle.dns_denial_index.proofs.spans.sweep.Goals.{in-Some+in_ok-push-2, in_default}

pub loop-place-preserved : goal.loop-place-preserved
loop-place-preserved c =
    let spans = c.args.spans.now in
    let place = c.loop-place.place in
    let lt : place < length c.args.first.now = c.loop-place-test.true in
    let stands : Stands spans place c.top_at.new.around.items = c.in_ok-top_at.ensures.stands in
    let next : Stands spans (place + 1) c.match-first-place.around.items = elim c.match-first-place.branch [
      | in-Some+in_ok-push-2 w ↦ rw w.around-is
          (swept_begun spans place w.in-Some.number c.top_at.new.around.items w.push-in-Some.new.self.items stands
          (sym (c.requires.begun place lt) ∙ w.in-Some.is) w.in_ok-push-2.ensures.items)
      | in_default w ↦ rw w.around-is
          (swept_further spans place c.top_at.new.around.items stands (sym (c.requires.begun place lt)
          ∙ w.in_default.is))
    ] in
    record {
      exact = counting_more spans place c.loop-place.counting.items c.push.new.self.items c.in_ok-top_at.field-0
          c.loop-place.invariant.exact c.in_ok-top_at.ensures.top c.in_ok-push.ensures.items;
      stands = next;
    }
