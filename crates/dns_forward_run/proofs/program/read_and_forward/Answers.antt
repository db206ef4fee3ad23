use Rattle.std.proofs.Common.{rules, ◌<◌, ◌≤◌, Err, IfSome, length, refl, ap}
use Rattle.dns_io.specs.Reading.{input_limit}
use Rattle.dns_forward_run.specs.Forwards.{Unread}
use Rattle.dns_forward_run.proofs.ForwardLemmas.{keeps_unread, long_ends, stopped_ends}
use Rattle.dns_forward_run.proofs.program.read_and_forward.Goals as goal

pub returns-in-Err-TooLong-clause-ends : goal.returns-in-Err-TooLong-clause-ends
returns-in-Err-TooLong-clause-ends g c =
    let long : IfSome (g.S.Source.left c.args.input.now) (λ left. input_limit < length left) = search rules in
    long_ends _ _ _ _ _ _ _ c.refuse_long.ensures.least long c.refuse_long.ensures.prefix

pub returns : goal.returns
returns g c =
    let most : c.read_status.result ≤ 6 = search rules in
    record {
      ends = stopped_ends _ _ _ _ _ _ c.read_status.ensures.least;
      stopped = λ is.
          Unread (c.in-Err.ensures.failed (ap (λ stop. Err stop) (c.read_status.ensures.failed is)))
          (record { dialer = refl; listener = refl });
      dialer = λ none. absurd cc;
      outside = keeps_unread _ _ _ _ _ c.read_status.ensures.least c.read_status.ensures.other most
          (λ is. c.in-Err.ensures.failed (ap (λ stop. Err stop) (c.read_status.ensures.failed is)))
          c.in-Err.ensures.read c.in-Err.ensures.later;
    }
