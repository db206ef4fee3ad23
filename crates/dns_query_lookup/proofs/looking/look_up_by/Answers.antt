use Rattle.std.proofs.Common.{◌∙◌, ap, refl}
use Rattle.dns_model.specs.Keys.{anchored}
use Rattle.dns_query_lookup.proofs.looking.look_up_by.Goals as goal

pub returns : goal.returns
returns g c = record {
  kept = refl;
  trusts = c.in_ok-anchors.ensures ∙ ap anchored (c.deref.ensures.value ∙ ap (λ t. t.anchors) c.trusted.view_is);
  inquiry = c.in_ok-inquiry.inquiry;
  is = c.in_ok-inquiry.ensures;
  new = c.look_up-reply.result.handle;
  looks = c.look_up-reply.ensures;
  noted = c.into_parts-notes.ensures.notes;
}
