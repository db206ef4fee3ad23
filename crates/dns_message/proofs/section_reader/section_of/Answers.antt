use Rattle.std.proofs.Common.{rules, ◌≡◌, ◌-◌, Option, None, Ok, ap, sym, ◌∙◌, refl}
use Rattle.std.proofs.lemmas.Result.{err_from_is_err_and}
use Rattle.dns_message.specs.declared.item.Item.{Item}
use Rattle.dns_message.specs.declared.item.Item.TheVariants as item
use Rattle.dns_message.specs.RecordAt.{item_at, section_at}
use Rattle.dns_message.proofs.RecordReading.{with_front, section_kept, section_opt, section_fails, section_done, opt_allowed, none_before}
use Rattle.dns_message.proofs.section_reader.section_of.Goals as goal
use Rattle.dns_message.proofs.section_reader.section_of.Goals.{in-Kept+in_ok-push-in-Kept, in-Opt, in-Some-3, in-None-3}

pub returns-in_err-item-clause-reads : goal.returns-in_err-item-clause-reads
returns-in_err-item-clause-reads c =
    let p = err_from_is_err_and c.from_residual-in_err-item.result c.from_residual-in_err-item.ensures.1 in
    rw (p.1, p.2) (section_fails c.in_err-item.field-0.0.kind c.in_err-item.field-0.0.offset c.args.count c.records.counter
    c.records.allowed c.args.message.now.bytes.now c.records.pos c.records.records.items c.records.opt
    (section_at c.args.count c.args.allow_opt c.args.message.now.bytes.now c.args.at) c.records-test.true
    c.records.invariant.so_far c.in_err-item.ensures.reads)

pub records-preserved : goal.records-preserved
records-preserved c =
    elim c.match-item.branch [
      | in-Kept+in_ok-push-in-Kept w ↦
          let h : item_at c.records.allowed c.args.message.now.bytes.now c.records.pos ≡ Ok (
            item.Kept w.in-Kept.record,
            c.in_ok-item.next,
          ) =
          c.in_ok-item.ensures.reads ∙ ap (λ (it : Item). Ok (it, c.in_ok-item.next)) w.in-Kept.is in
          record {
            so_far = rw (w.records-is, w.opt-is, w.allowed-is, w.in_ok-push-in-Kept.ensures.items)
                (section_kept c.args.count c.records.counter c.records.allowed c.args.message.now.bytes.now c.records.pos
                w.in-Kept.record c.in_ok-item.next
                c.records.records.items c.records.opt (section_at c.args.count c.args.allow_opt c.args.message.now.bytes.now c.args.at)
                c.records-test.true h c.records.invariant.so_far);
            once = rw (w.opt-is, w.allowed-is) c.records.invariant.once;
            fits = c.in_ok-item.ensures.fits;
            known = search rules;
          }
      | in-Opt w ↦
          let h : item_at c.records.allowed c.args.message.now.bytes.now c.records.pos
          ≡ Ok (item.Opt w.in-Opt.edns w.in-Opt.code, c.in_ok-item.next) =
          c.in_ok-item.ensures.reads ∙ ap (λ (it : Item). Ok (it, c.in_ok-item.next)) w.in-Opt.is in
          let none : c.records.opt ≡ None =
          none_before c.records.opt c.records.allowed c.records.invariant.once
          (opt_allowed c.records.allowed c.args.message.now.bytes.now c.records.pos w.in-Opt.edns w.in-Opt.code c.in_ok-item.next h) in
          let so_far : with_front c.records.records.items None
          (section_at (c.args.count - c.records.counter) c.records.allowed c.args.message.now.bytes.now c.records.pos)
          ≡ section_at c.args.count c.args.allow_opt c.args.message.now.bytes.now c.args.at =
          ap (λ (o : Option _). with_front c.records.records.items o
          (section_at (c.args.count - c.records.counter) c.records.allowed c.args.message.now.bytes.now c.records.pos)) (sym none)
          ∙ c.records.invariant.so_far in
          record {
            so_far = rw (w.records-is, w.opt-is, w.allowed-is)
                (section_opt c.args.count c.records.counter c.records.allowed c.args.message.now.bytes.now c.records.pos
                w.in-Opt.edns w.in-Opt.code c.in_ok-item.next
                c.records.records.items (section_at c.args.count c.args.allow_opt c.args.message.now.bytes.now c.args.at)
                c.records-test.true h so_far);
            once = rw (w.opt-is, w.allowed-is) refl;
            fits = c.in_ok-item.ensures.fits;
            known = search rules;
          }
    ]

pub returns-clause-reads : goal.returns-clause-reads
returns-clause-reads c = section_done c.args.count c.records.counter c.records.allowed c.args.message.now.bytes.now
    c.records.pos c.records.records.items c.records.opt
    (section_at c.args.count c.args.allow_opt c.args.message.now.bytes.now c.args.at) c.records-test.false c.records.invariant.so_far
