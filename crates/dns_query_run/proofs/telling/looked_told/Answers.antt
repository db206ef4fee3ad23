use Rattle.dns_query_run.proofs.ShownLemmas.{kept_as, proved_as}
use Rattle.dns_query_run.proofs.telling.looked_told.Goals as goal

pub returns-clause-tells : goal.returns-clause-tells
returns-clause-tells c = record {
  lost = c.in_ok-status.field-0.complaint.items;
  kept = kept_as c.args.keeps c.args.call.now _ c.args.looked.now _ c.answer_status-status.result _ _ _ c.call.view_is
      c.looked.view_is c.answer_status-status.ensures.status c.in_ok-status.ensures.keeps;
  proved = λ zero.
      proved_as c.args.keeps c.args.call.now _ c.args.looked.now _ c.answer_status-status.result _ _ _ c.call.view_is
      c.looked.view_is c.answer_status-status.ensures.proved c.in_ok-status.ensures.keeps zero;
  tells = c.in_ok-text.ensures;
  complains =
      cc (
        c.in_ok-extend_from_slice.ensures.items,
        c.deref.ensures.value,
        c.in_ok-status.lost-is,
        c.in_ok-complaint.ensures,
      );
}
