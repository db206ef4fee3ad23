use Rattle.std.proofs.Common.{rules}
use Rattle.std.proofs.lemmas.Result.{err_from_is_err_and}
use Rattle.dns_query_lookup.proofs.AskLemmas.{untrusted_by}
use Rattle.dns_query_lookup.proofs.asking.ask_over.Goals as goal

pub returns-in_err-trusted : goal.returns-in_err-trusted
returns-in_err-trusted g c =
    let p = err_from_is_err_and c.from_residual.result c.from_residual.ensures.1 in
    rw (p.1, p.2)
    (untrusted_by _ c.args.call.now _ c.new-verifier.result c.args.handle c.anchor_keys.new.handle
    c.in_err-trusted.field-0.0
    c.call.view_is c.new-verifier.ensures c.in_err-trusted.ensures)

pub returns : goal.returns
returns g c = record {
  mid = c.anchor_keys.new.handle;
  start = c.take_notes.new.self;
  trusts = search rules;
  cleared = record {
    inner = c.take_notes.ensures.handle;
    watch = c.take_notes.ensures.watch;
    notes = c.take_notes.ensures.notes;
  };
  looks = search rules;
}
