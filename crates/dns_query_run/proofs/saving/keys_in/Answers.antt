use Rattle.std.proofs.Common.{◌∙◌, ap}
use Rattle.dns_query_run.proofs.saving.keys_in.Goals as goal

pub returns : goal.returns
returns c = c.as_slice.ensures.value ∙ ap (λ t. t.anchors) c.trusted.view_is
