use Rattle.crossbeam_queue.specs.Passes.{view, ruled_capacity}
use Rattle.turns.proofs.Steps.{gives, finds_room}
use Rattle.dns_shared_exchange.proofs.TokenLemmas.{given_known}
use Rattle.dns_shared_exchange.proofs.turn.give_turn.Goals as goal

pub push_as-requires-clause-rule : goal.push_as-requires-clause-rule
push_as-requires-clause-rule g c = (
  gives (ruled_capacity c.args.line.now) c.args.pass.now.id (view c.args.pass.now) c.args.core c.requires.out
      c.requires.begun c.requires.about,
  finds_room c.args.pass.now.id (view c.args.pass.now) c.requires.out,
)

pub returns-clause-known : goal.returns-clause-known
returns-clause-known g c =
    given_known (view c.args.pass.now) (view c.push_as.new.pass) c.args.core c.in-Ok.ensures.rule c.requires.begun
    c.requires.about c.requires.sound c.requires.legal
