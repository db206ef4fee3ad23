use Rattle.std.proofs.Common.{◌≡◌, ◌≤◌, [], List, length, sym, ap, ◌∙◌, arith}
use Rattle.dns_multiplexer.specs.Machine.{Request}
use Rattle.dns_journal.proofs.ReplayLemmas.{new_replay}
use Rattle.dns_journal.proofs.ViewLemmas.{is_journal}
use Rattle.dns_journal.proofs.journaled_core.JournaledCore.new.Goals as goal

pub invariant_of-result : goal.invariant_of-result
invariant_of-result c =
    new_replay c.args.core c.in_ok-new.field-0.items c.in_ok-new.field-0.room c.requires.requests c.requires.outbound
    c.requires.open
    (sym c.accepted.ensures.brought ∙ c.accepted.ensures.requests
    ∙ ap (λ (rs : List Request). length rs) c.requires.requests)
    c.in_ok-new.ensures.items (let room = c.in_ok-new.ensures.room in omega arith)

pub returns-clause-journal : goal.returns-clause-journal
returns-clause-journal c =
    is_journal c.args.core.machine.settings c.in_ok-new.field-0.items c.args.core 0 c.in_ok-new.field-0.room
    (new_replay c.args.core c.in_ok-new.field-0.items c.in_ok-new.field-0.room c.requires.requests c.requires.outbound
    c.requires.open
    (sym c.accepted.ensures.brought ∙ c.accepted.ensures.requests
    ∙ ap (λ (rs : List Request). length rs) c.requires.requests)
    c.in_ok-new.ensures.items (let room = c.in_ok-new.ensures.room in omega arith))
