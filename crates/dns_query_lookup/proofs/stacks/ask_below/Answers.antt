use Rattle.std.proofs.Common.{◌∙◌, ap}
use Rattle.dns_query_handle.specs.CheckingHandles as checked
use Rattle.dns_query_handle.specs.DeadlineHandles as timed
use Rattle.dns_query_lookup.proofs.stacks.ask_below.Goals as goal

pub returns : goal.returns
returns g c = record {
  stack = c.new-noting.result;
  made = record {
    sends = ap (λ t. checked.inner_of (timed.inner_of t)) c.new-noting.ensures.handle
        ∙ ap checked.inner_of c.new-timed.ensures.handle ∙ c.new-checking.ensures.handle;
    cd = ap (λ t. checked.is_disabled_by (timed.inner_of t)) c.new-noting.ensures.handle
        ∙ ap checked.is_disabled_by c.new-timed.ensures.handle ∙ c.new-checking.ensures.disabled
        ∙ ap (λ v. v.is_disabled) c.call.view_is;
    watch = ap timed.watch_of c.new-noting.ensures.handle ∙ c.new-timed.ensures.watch;
    limit = ap timed.limit_of c.new-noting.ensures.handle ∙ c.new-timed.ensures.limit
        ∙ ap (λ v. v.limit) c.call.view_is;
    stopwatch = c.new-noting.ensures.watch;
    unnoted = c.new-noting.ensures.notes;
  };
  asks = c.ask_over.ensures;
}
