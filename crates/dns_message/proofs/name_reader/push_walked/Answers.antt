use Rattle.std.proofs.Common.{rules, ◌≡◌, ◌+◌, length, Ok, ap, ◌∙◌, arith}
use Rattle.std.proofs.lemmas.Result.{err_from_is_err_and}
use Rattle.dns_message.specs.declared.step.Step.TheVariants as step
use Rattle.dns_message.specs.NameAt.{step_of}
use Rattle.dns_message.proofs.NameReading.{row_none, row_root, row_label, row_pointer, row_fails, label_step, pointer_step, ending_fits}
use Rattle.dns_message.proofs.NameKeeping.{row_known, on_way, all_passed, more_passed, none_passed}
use Rattle.dns_message.proofs.name_reader.push_walked.Goals as goal

pub steps-init : goal.steps-init
steps-init c = record {
  row = row_none c.args.message.now.bytes.now c.args.at c.args.into.now.items;
  room = search rules;
  begun = search rules;
  start_fits = search rules;
  pos_fits = search rules;
  ending_fits = tt;
  passed = none_passed _ _ _ c.requires.none;
}

pub returns-in-Root-clause-name : goal.returns-in-Root-clause-name
returns-in-Root-clause-name c =
    let is : step_of c.args.message.now.bytes.now c.steps.start c.steps.pos c.steps.size ≡ Ok step.Root =
    c.in_ok-step_at.ensures.reads ∙ ap Ok c.in-Root.is in
    rw c.ending_or.ensures (row_root c.args.message.now.bytes.now c.args.at c.steps.start c.steps.pos c.steps.ending
    c.args.into.now.items c.steps.into.items c.steps.size _
    c.steps.invariant.row c.steps.invariant.begun c.steps.invariant.room is c.in_ok-extend_from_slice-in-Root.ensures.items)

pub returns-in-Root-clause-passed : goal.returns-in-Root-clause-passed
returns-in-Root-clause-passed c = all_passed _ _ _ _ _ _ (returns-in-Root-clause-name c) c.steps.invariant.passed

pub returns-in_err-step_at-clause-fault : goal.returns-in_err-step_at-clause-fault
returns-in_err-step_at-clause-fault c =
    let p = err_from_is_err_and c.from_residual.result c.from_residual.ensures.1 in
    rw (p.1, p.2) (row_fails c.in_err-step_at.field-0.0.kind c.in_err-step_at.field-0.0.offset c.args.message.now.bytes.now
    c.args.at c.steps.start c.steps.pos c.steps.ending
    c.args.into.now.items c.steps.into.items c.steps.size c.steps.invariant.row c.in_err-step_at.ensures.reads)

pub steps-preserved-in-Label : goal.steps-preserved-in-Label
steps-preserved-in-Label c =
    let is : step_of c.args.message.now.bytes.now c.steps.start c.steps.pos c.steps.size ≡ Ok (step.Label c.in-Label.label) =
    c.in_ok-step_at.ensures.reads ∙ ap Ok c.in-Label.is in
    let s = label_step c.args.message.now.bytes.now c.steps.start c.steps.pos c.steps.size c.in-Label.label is in
    record {
      row = rw c.from-label.ensures (row_label c.args.message.now.bytes.now c.args.at c.steps.start c.steps.pos c.steps.ending
          c.args.into.now.items c.steps.into.items c.steps.size c.in-Label.label
          c.steps.invariant.row c.steps.invariant.begun is);
      room = omega (arith, s.room, c.from-label.ensures);
      begun = omega (arith, c.steps.invariant.begun);
      start_fits = search rules;
      pos_fits = omega (arith, s.inside, c.from-label.ensures);
      ending_fits = c.steps.invariant.ending_fits;
      passed = c.steps.invariant.passed;
    }

pub returns-in-Some-clause-name : goal.returns-in-Some-clause-name
returns-in-Some-clause-name c =
    let bytes = c.args.message.now.bytes.now in
    let l = c.steps in
    let is : step_of bytes l.start l.pos l.size ≡ Ok (step.Pointer c.in-Pointer.target) = c.in_ok-step_at.ensures.reads
    ∙ ap Ok c.in-Pointer.is in
    let known = c.in-Some.ensures.known bytes c.requires.known in
    rw c.ending_or-in-Some.ensures (row_known bytes c.args.at l.start l.pos l.ending c.args.into.now.items l.into.items
    l.size c.in-Pointer.target _ _ c.in-Some.known.now
    l.invariant.row is known c.in-Some.ensures.room c.in_ok-push_row-in-Pointer.ensures c.in_ok-extend_from_slice-in-Pointer.ensures.items)

pub returns-in-Some-clause-passed : goal.returns-in-Some-clause-passed
returns-in-Some-clause-passed c = all_passed _ _ _ _ _ _ (returns-in-Some-clause-name c) c.steps.invariant.passed

pub steps-preserved : goal.steps-preserved
steps-preserved c =
    let is : step_of c.args.message.now.bytes.now c.steps.start c.steps.pos c.steps.size ≡ Ok (step.Pointer c.in-Pointer.target) =
    c.in_ok-step_at.ensures.reads ∙ ap Ok c.in-Pointer.is in
    let s = pointer_step c.args.message.now.bytes.now c.steps.start c.steps.pos c.steps.size c.in-Pointer.target is in
    let row = row_pointer c.args.message.now.bytes.now c.args.at c.steps.start c.steps.pos c.steps.ending c.args.into.now.items
    c.steps.into.items c.steps.size
    c.in-Pointer.target _ c.steps.invariant.row is c.in_ok-push_row-in-Pointer.ensures in
    record {
      row = rw (c.from-start.ensures, c.ending_or-in-Pointer.ensures) row;
      room = search rules;
      begun = search rules;
      start_fits = omega (arith, s.before, c.from-start.ensures, c.steps.invariant.start_fits);
      pos_fits = omega (arith, s.before, c.from-start.ensures, c.steps.invariant.start_fits);
      ending_fits = rw c.ending_or-in-Pointer.ensures
          (ending_fits c.steps.ending (c.steps.pos + 2) (length c.args.message.now.bytes.now) c.steps.invariant.ending_fits s.inside);
      passed = more_passed _ _ _ _ _ _ c.in_ok-pass-in-Pointer.ensures c.steps.invariant.passed (on_way _ _ _ _ _ _ _ row);
    }
