use Rattle.dns_run.proofs.server.ask_session.Goals as goal

pub returns-in-Ok-clause-ends : goal.returns-in-Ok-clause-ends
returns-in-Ok-clause-ends g c =
    c.ask_inquiry.ensures.ends c.args.session c.args.moment c.in-Ok.ensures.inquiry c.in-Ok.ensures.judging
