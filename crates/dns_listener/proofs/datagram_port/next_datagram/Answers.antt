use Rattle.std.proofs.Common.{List, [], ◌∷◌, Option, ap, refl, take, ◌∙◌, arith}
use Rattle.std.proofs.lemmas.Result.{err_from_is_err_and}
use Rattle.dns_link.specs.Moved.{DatagramValue, and_then}
use Rattle.dns_listener.specs.Datagrams.{Failed, OneCame}
use Rattle.dns_listener.proofs.DatagramLemmas.{quiet_none, quiet_some, told_none}
use Rattle.dns_listener.proofs.datagram_port.next_datagram.Goals as goal

pub wait-init : goal.wait-init
wait-init g c = record { quiet = quiet_none _; given = refl; most = omega arith }

pub returns-in_err-came-clause-waited : goal.returns-in_err-came-clause-waited
returns-in_err-came-clause-waited g c =
    let p = err_from_is_err_and c.from_residual.result c.from_residual.ensures.1 in
    rw (p.1, p.2)
    (Failed _ _ (quiet_some _ _ _ c.wait.invariant.quiet) c.in_err-came.ensures.counts
    (c.in_err-came.ensures.given ∙ told_none _ ∙ c.wait.invariant.given) refl)

pub returns-in-Some-clause-waited : goal.returns-in-Some-clause-waited
returns-in-Some-clause-waited g c =
    let came : DatagramValue = (take c.in-Some.came.0 c.recv_from.new.buf, c.in-Some.came.1) in
    OneCame came _ (quiet_some _ _ _ c.wait.invariant.quiet) (rw c.in-Some.is at c.in_ok-came.ensures.counts)
    ((rw c.in-Some.is at c.in_ok-came.ensures.given)
    ∙ ap (λ (told : Option (List DatagramValue)). and_then told (came ∷ [])) c.wait.invariant.given) refl
