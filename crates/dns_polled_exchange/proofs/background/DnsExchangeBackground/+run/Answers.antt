use Rattle.std.proofs.Common.{rules, ◌-◌, [], None, Some, Ok, Err, refl, arith}
use Rattle.futures.specs.Runs.{After}
use Rattle.dns_handle.specs.declared.io_kind.IoKind.TheVariants.{UnexpectedEof}
use Rattle.dns_polled_exchange.specs.Backgrounds.{stream_of}
use Rattle.dns_polled_exchange.proofs.BackgroundLemmas.{IsMore, none_came, ends_now, more_came}
use Rattle.dns_polled_exchange.proofs.background.DnsExchangeBackground.+run.Goals as goal

pub returns-then-left-eq0-clause-came : goal.returns-then-left-eq0-clause-came
returns-then-left-eq0-clause-came g t c =
    let old = g.S.Stream.yields (stream_of c.args.self.now) in
    none_came old old c.args.left c.args.token.now.known (λ xs last may. may)

pub returns-in-Pending-clause-came : goal.returns-in-Pending-clause-came
returns-in-Pending-clause-came g t c =
    none_came (g.S.Stream.yields (stream_of c.args.self.now)) (g.S.Stream.yields c.poll_next.new.self) c.args.left
    c.args.token.now.known c.in-Pending.ensures.same

pub returns-in-Ready-None-clause-came : goal.returns-in-Ready-None-clause-came
returns-in-Ready-None-clause-came g t c =
    let may : g.S.Stream.yields (stream_of c.args.self.now) [] None = search rules in
    ends_now (g.S.Stream.yields (stream_of c.args.self.now)) c.args.left c.args.token.now.known None UnexpectedEof
    (omega (arith, c.if-left-eq0.false)) may refl

pub returns-in-Ready-Some-Err-clause-came : goal.returns-in-Ready-Some-Err-clause-came
returns-in-Ready-Some-Err-clause-came g t c =
    let may : g.S.Stream.yields (stream_of c.args.self.now) [] (Some (Err c.in-Ready-Some-Err.kind)) = search rules in
    ends_now (g.S.Stream.yields (stream_of c.args.self.now)) c.args.left c.args.token.now.known
    (Some (Err c.in-Ready-Some-Err.kind)) c.in-Ready-Some-Err.kind (omega (arith, c.if-left-eq0.false)) may refl

pub returns-in-Ready-Some-Ok-clause-came : goal.returns-in-Ready-Some-Ok-clause-came
returns-in-Ready-Some-Ok-clause-came g t c =
    let old = g.S.Stream.yields (stream_of c.args.self.now) in
    let mid = g.S.Stream.yields c.poll_next.new.self in
    let may : After old (Ok c.in-Ready-Some-Ok.message) mid = search rules in
    let before = c.args.token.now.known in
    let more : IsMore old mid c.args.left (c.args.left - 1) before c.hand_over.new.token.known = record {
      message = c.in-Ready-Some-Ok.message;
      fits = omega (arith, c.if-left-eq0.false);
      after = may;
      handed = c.hand_over.ensures.handed;
    } in
    more_came more (g.S.Stream.yields (stream_of c.run.new.self)) c.run.new.token.known c.run.result c.run.ensures.came
