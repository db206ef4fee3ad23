use Rattle.std.proofs.Common.{[], ◌∷◌, None, Some, Ok, Err, ◌+◌, sym, ◌∙◌}
use Rattle.dns_link.specs.Calls.{and_calls}
use Rattle.dns_link.specs.declared.net_call.NetCall.TheVariants.{Bind}
use Rattle.dns_link.proofs.CallLemmas.{told_then}
use Rattle.dns_udp.specs.Met.{dialer_view}
use Rattle.dns_udp.proofs.BindingLemmas.{made_after, made_at_once, ports_then, refused_at_last, tried_after, tried_last}
use Rattle.dns_udp.proofs.binding.Binding.+bind.Goals as goal

pub returns-in-Ok-clause-bound : goal.returns-in-Ok-clause-bound
returns-in-Ok-clause-bound g t c = record {
  refused = 0;
  tried = tried_last g.R.Draws.draws_port c.args.self.now c.args.draws.now c.next_local-local.new.draws
      c.args.attempted.now c.next_local-local.new.attempted c.next_local-local.result (Ok c.in-Ok.socket)
      c.next_local-local.ensures.next tt;
  met = made_at_once g.D.Datagrams.Datagrams.counts g.D.Datagrams.Datagrams.given
      (dialer_view g.D.Dialer.counts g.D.Dialer.given_datagrams c.args.dial.now)
      (dialer_view g.D.Dialer.counts g.D.Dialer.given_datagrams c.bind.new.self) c.in-Ok.socket c.in-Ok.ensures.counts
      c.in-Ok.ensures.datagrams c.in-Ok.ensures.made;
  calls = record { made = Bind c.next_local-local.result ∷ []; fault = None };
  told = c.in-Ok.ensures.calls;
}

pub returns-then-is_tried_again-clause-bound : goal.returns-then-is_tried_again-clause-bound
returns-then-is_tried_again-clause-bound g t c =
    let later = c.bind-then-is_tried_again.ensures.bound in
    record {
      refused = 1 + later.refused;
      tried = tried_after g.R.Draws.draws_port c.args.self.now c.args.draws.now c.next_local-local.new.draws
          c.bind-then-is_tried_again.new.draws c.args.attempted.now c.next_local-local.new.attempted
          c.bind-then-is_tried_again.new.attempted (c.next_local-local.result, c.in-Err.kind) later.refused later.calls
          c.bind-then-is_tried_again.result c.next_local-local.ensures.next (sym c.is_tried_again.ensures.again ∙ c.if-is_tried_again.true)
          (c.is_tried_again.ensures.few c.if-is_tried_again.true) c.next_local-local.ensures.rises
          later.tried;
      met = made_after g.D.Datagrams.Datagrams.counts g.D.Datagrams.Datagrams.given
          (dialer_view g.D.Dialer.counts g.D.Dialer.given_datagrams c.args.dial.now)
          (dialer_view g.D.Dialer.counts g.D.Dialer.given_datagrams c.bind.new.self)
          (dialer_view g.D.Dialer.counts g.D.Dialer.given_datagrams c.bind-then-is_tried_again.new.dial) later.refused
          c.bind-then-is_tried_again.result c.in-Err.ensures.counts c.in-Err.ensures.datagrams later.met;
      calls = and_calls (record { made = Bind c.next_local-local.result ∷ []; fault = Some c.in-Err.kind }) later.calls;
      told = told_then _ _ _ (record { made = Bind c.next_local-local.result ∷ []; fault = Some c.in-Err.kind }) _
          c.in-Err.ensures.calls later.told;
    }

pub returns-then-is_tried_again-clause-ports : goal.returns-then-is_tried_again-clause-ports
returns-then-is_tried_again-clause-ports g t c =
    ports_then g.R.Draws.draws_port c.args.draws.now c.next_local-local.new.draws c.bind-then-is_tried_again.new.draws
    c.next_local-local.ensures.ports c.bind-then-is_tried_again.ensures.ports

pub returns-else-is_tried_again-clause-bound : goal.returns-else-is_tried_again-clause-bound
returns-else-is_tried_again-clause-bound g t c = record {
  refused = 1;
  tried = tried_last g.R.Draws.draws_port c.args.self.now c.args.draws.now c.next_local-local.new.draws
      c.args.attempted.now c.next_local-local.new.attempted c.next_local-local.result (Err c.in-Err.kind)
      c.next_local-local.ensures.next
      (sym c.is_tried_again.ensures.again ∙ c.if-is_tried_again.false);
  met = refused_at_last g.D.Datagrams.Datagrams.counts g.D.Datagrams.Datagrams.given
      (dialer_view g.D.Dialer.counts g.D.Dialer.given_datagrams c.args.dial.now)
      (dialer_view g.D.Dialer.counts g.D.Dialer.given_datagrams c.bind.new.self) c.in-Err.kind c.in-Err.ensures.counts
      c.in-Err.ensures.datagrams;
  calls = record { made = Bind c.next_local-local.result ∷ []; fault = Some c.in-Err.kind };
  told = c.in-Err.ensures.calls;
}
