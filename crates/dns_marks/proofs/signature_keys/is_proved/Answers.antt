use Rattle.std.proofs.Common.{sym, ◌∙◌}
use Rattle.dns_marks.proofs.KeyLemmas.{next_turn, found_turn, found_calls, cut_turn, last_turn, last_calls}
use Rattle.dns_marks.proofs.signature_keys.is_proved.Goals as goal

pub returns-in_err-is_proving-clause-most : goal.returns-in_err-is_proving-clause-most
returns-in_err-is_proving-clause-most g c =
    cut_turn _ _ _ _ _ _ _ _ _ c.key-item.result c.loop-key-test.true c.key-item.is c.loop-key.invariant.0 c.is_proving.ensures.most

pub returns-then-branch-clause-proved : goal.returns-then-branch-clause-proved
returns-then-branch-clause-proved g c =
    sym (found_turn _ _ _ _ _ _ _ _ c.key-item.result c.loop-key-test.true c.key-item.is c.loop-key.invariant.0
    (sym c.in_ok-is_proving.ensures.proving ∙ c.if-branch.true))

pub returns-then-branch-clause-calls : goal.returns-then-branch-clause-calls
returns-then-branch-clause-calls g c =
    found_calls _ _ _ _ _ _ _ _ _ c.key-item.result c.loop-key-test.true c.key-item.is c.loop-key.invariant.0
    (sym c.in_ok-is_proving.ensures.proving ∙ c.if-branch.true) c.in_ok-is_proving.ensures.calls

pub returns-then-branch-clause-most : goal.returns-then-branch-clause-most
returns-then-branch-clause-most g c =
    cut_turn _ _ _ _ _ _ _ _ _ c.key-item.result c.loop-key-test.true c.key-item.is c.loop-key.invariant.0 c.is_proving.ensures.most

pub loop-key-preserved : goal.loop-key-preserved
loop-key-preserved g c = (
  next_turn _ _ _ _ _ _ _ _ _ c.key-item.result c.loop-key-test.true c.key-item.is c.loop-key.invariant.0
      (sym c.in_ok-is_proving.ensures.proving ∙ c.if-branch.false) c.in_ok-is_proving.ensures.calls,
  c.in_ok-is_proving.ensures.built,
)

pub returns-clause-proved : goal.returns-clause-proved
returns-clause-proved g c = last_turn _ _ _ _ _ _ _ _ c.loop-key-test.false c.loop-key.invariant.0

pub returns-clause-calls : goal.returns-clause-calls
returns-clause-calls g c = last_calls _ _ _ _ _ _ _ _ c.loop-key-test.false c.loop-key.invariant.0
