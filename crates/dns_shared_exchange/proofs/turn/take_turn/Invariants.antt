use Rattle.std.proofs.Common.{◌≡◌}
use Rattle.crossbeam_queue.specs.Passes.{view, IsSamePass, IsPassOf}
use Rattle.dns_shared_exchange.proofs.turn.take_turn.Given as goal

abbrev pub invariant-loop : goal.invariant-loop
invariant-loop g l =
    IsPassOf l.line l.pass × IsSamePass l.initial.pass l.pass × (view l.pass ≡ view l.initial.pass)
