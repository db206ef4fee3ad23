use Rattle.std.proofs.Common.{sym, ap, ◌∙◌}
use Rattle.dns_multiplexer.specs.Draws.{CoreValue}
use Rattle.dns_tcp.proofs.LiveLemmas.{going_none, going_offer}
use Rattle.dns_tcp.proofs.OursLemmas.{none_of, offered_none, offered_some}
use Rattle.dns_tcp.proofs.offering.offer.Goals as goal

pub returns-in_err-arrive-clause-going : goal.returns-in_err-arrive-clause-going
returns-in_err-arrive-clause-going g c = rw c.in_err-arrive.ensures.err (going_none _)

pub returns-in-Item-clause-offered : goal.returns-in-Item-clause-offered
returns-in-Item-clause-offered g c = λ id moment ours.
    offered_some _ _ _ _ _ _ _ _ _ _ _ c.in_ok-arrive.ensures.arrived (rw c.in-Item.is at c.take.ensures.taken) ours

pub returns-in-Item-clause-going : goal.returns-in-Item-clause-going
returns-in-Item-clause-going g c =
    going_offer _ _ _ _ _ _ _ c.in_ok-arrive.ensures.arrived c.in_ok-arrive.ensures.kept c.take.ensures.taken
    c.take.ensures.kept

pub returns-in-Pending : goal.returns-in-Pending
returns-in-Pending g c = record {
  offered = λ id moment ours.
      offered_none _ _ _ _ _ _ _ _ _ _ _ c.in_ok-arrive.ensures.arrived c.take.ensures.taken
      (none_of _ c.in-Pending.is) ours;
  going = going_offer _ _ _ _ _ _ _ c.in_ok-arrive.ensures.arrived c.in_ok-arrive.ensures.kept c.take.ensures.taken
      c.take.ensures.kept;
  shutdown = ap (λ (core : CoreValue). core.is_shutdown) c.take.ensures.kept
      ∙ ap (λ (core : CoreValue). core.is_shutdown) c.in_ok-arrive.ensures.kept;
  draws = sym c.take.ensures.draws ∙ sym c.in_ok-arrive.ensures.draws;
}
