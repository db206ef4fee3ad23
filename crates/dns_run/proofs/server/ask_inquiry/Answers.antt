use Rattle.std.proofs.Common.{rules, ◌≡◌}
use Rattle.std.specs.Prelude.{unwrap_or}
use Rattle.dns_handle.specs.Replies.{reply_of}
use Rattle.dns_multiplexer.specs.Draws.{seeded_draws}
use Rattle.dns_run.proofs.AskLemmas.{all_told}
use Rattle.dns_run.proofs.server.ask_inquiry.Goals as goal

pub returns-clause-ends : goal.returns-clause-ends
returns-clause-ends g c = λ s now is judges.
    let drawn : c.from_seed-draws.result ≡ seeded_draws (unwrap_or c.args.given.seed c.args.inquiry.moment) =
    search rules in
    all_told _ s now c.args.given.dial c.ask_server-reply.result.dial c.args.inquiry c.from_seed-draws.result
    (reply_of c.ask_server-reply.result.reply) c.args.judging.now (λ x. x.0) (λ x. x.1.items)
    c.told_ending-ending.result is judges drawn
    c.ask_server-reply.ensures.asked c.ask_server-reply.ensures.caused c.told_ending-ending.ensures.ends
