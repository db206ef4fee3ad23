use Rattle.std.proofs.Common.{◌≡◌, ◌∙◌, [], ◌∷◌, ◌++◌, sym, ap, arith}
use Rattle.std.proofs.lemmas.Grind.{common_steps}
use Rattle.std.proofs.lemmas.List.{map-append, map-id}
use Rattle.std.proofs.lemmas.Iterator.Consumers.{YieldsList-end}
use Rattle.std.proofs.lemmas.Iterator.Adapters.{YieldsList-from_vec}
use Rattle.dns_forward_run.specs.Settings.{judging_of}
use Rattle.dns_forward_run.proofs.JudgedLemmas.{alike_more}
use Rattle.dns_forward_run.proofs.connections.seats_over.Goals as goal

pub loop-port-preserved : goal.loop-port-preserved
loop-port-preserved g c = (
  rw c.in_ok-push.ensures.items
      (map-append (λ s. s.port) c.loop-port.seats.items (c.in_ok-seat.seat ∷ [])
      ∙ (ap (λ l. l ++ c.in_ok-seat.seat.port ∷ []) c.loop-port.invariant.0
      ∙ ap (λ p. c.loop-port.yielded ++ p ∷ []) c.in_ok-seat.ensures.port)),
  grind (arith, common_steps),
  rw c.in_ok-push.ensures.items
      (alike_more _ (λ s. judging_of s) c.loop-port.seats.items c.in_ok-seat.seat c.loop-port.invariant.2
      c.in_ok-seat.ensures.judging),
)

pub returns-clause-ports : goal.returns-clause-ports
returns-clause-ports g c =
    let all =
    YieldsList-end
    (YieldsList-from_vec c.args.ports.items (cc) (cc)) c.loop-port.yielded c.loop-port.port-iterator
    c.loop-port.yielded_by c.next.result c.next.new.self c.in-None.is c.next.ensures.steps in
    let same : c.loop-port.yielded ≡ c.args.ports.items = sym (map-id c.loop-port.yielded) ∙ all.0 in
    c.loop-port.invariant.0 ∙ same
