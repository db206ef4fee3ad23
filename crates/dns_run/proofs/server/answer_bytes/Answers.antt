use Rattle.dns_run.proofs.AskLemmas.{all_wrote, all_prefix}
use Rattle.dns_run.proofs.server.answer_bytes.Goals as goal

pub returns-clause-ends : goal.returns-clause-ends
returns-clause-ends g c = λ low.
    all_wrote _ c.args.given.dial c.ask_bytes-ending.result.dial
    c.args.bytes.now (λ x. x.0) (λ x. x.1.items) c.ask_bytes-ending.result.ending c.write_ending-status.result _ _
    c.ask_bytes-ending.ensures.ends (c.write_ending-status.ensures.only low) (c.write_ending-status.ensures.written low)

pub returns-clause-prefix : goal.returns-clause-prefix
returns-clause-prefix g c =
    all_prefix _ c.args.given.dial c.ask_bytes-ending.result.dial
    c.args.bytes.now (λ x. x.0)
    (λ x. x.1.items) c.ask_bytes-ending.result.ending g.W.Sink.taken _ _ c.ask_bytes-ending.ensures.ends
    c.write_ending-status.ensures.prefix
