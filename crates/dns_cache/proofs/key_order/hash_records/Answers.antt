use Rattle.std.proofs.Common.{◌++◌, fold, map, sym, ap, ◌∙◌}
use Rattle.std.specs.Hash as fed
use Rattle.std.specs.List.{flat_map}
use Rattle.std.proofs.lemmas.List.{length-map}
use Rattle.dns_rules.specs.CacheKeys.{bytes_of}
use Rattle.dns_cache.specs.KeyOrder.{record_input}
use Rattle.dns_cache.proofs.FeedLemmas.{fed_all, fed_next}
use Rattle.dns_cache.proofs.key_order.hash_records.Goals as goal

pub loop-record-preserved : goal.loop-record-preserved
loop-record-preserved g c =
    fed_next g.H.Hasher.write c.loop-record.state c.hash_record.new.state c.args.records.now c.loop-record.record-index c.record-item.result
    c.loop-record-test.true c.record-item.is c.hash_record.ensures
    ∙ c.loop-record.invariant

pub returns : goal.returns
returns g c =
    let write = g.H.Hasher.write in
    let records = c.args.records.now in
    let inputs = flat_map record_input (map bytes_of records) in
    sym (fed_all write c.loop-record.state records c.loop-record.record-index c.loop-record-test.false)
    ∙ c.loop-record.invariant
    ∙ ap (λ s. fold write s inputs) c.write_usize.ensures
    ∙ sym (ap (λ n. fold write c.args.state.now (fed.usize n ++ inputs)) (length-map records bytes_of))
