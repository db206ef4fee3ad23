use Rattle.std.proofs.Common.{Some, refl, sym, subst}
use Rattle.dns_cache.specs.CacheLists.{CountedList}
use Rattle.dns_cache.specs.declared.validation_cache.ValidationCache as cache
use Rattle.dns_lookup.specs.Calls.{inner_of}
use Rattle.dns_bench_zones.specs.Benches.{EndsBench}
use Rattle.dns_bench_zones.specs.Parts.{IsCounted}
use Rattle.dns_bench_zones.proofs.EndLemmas.{ends_bench}
use Rattle.dns_bench_zones.proofs.bench.count_lookup.Goals as goal

-- what its cache tells
abbrev kept : cache.Ghosts CountedList
kept = record { hits = λ c. c.hits; told = λ c. Some c.list }

pub returns : goal.returns
returns g c = λ n is counting.
    subst (λ h. EndsBench g.H.DnsHandle n (inner_of c.args.validator) (Some h) c.counted_of-result.result)
    (sym c.into_inner.ensures)
    (ends_bench g.H.DnsHandle kept n c.args.validator c.lookup-answer.new.self c.args.query c.deep_options.result
    c.lookup-answer.result c.counted_of-result.result (λ cache. refl) is c.deep_options.ensures
    (record {
      sends = c.lookup-answer.ensures.sends;
      front = c.lookup-answer.ensures.front;
      sound = c.lookup-answer.ensures.sound;
      trail = c.lookup-answer.ensures.trail;
      cached = c.lookup-answer.ensures.cached;
      explained = c.lookup-answer.ensures.explained;
      denies = c.lookup-answer.ensures.denies;
      denied = c.lookup-answer.ensures.denied;
      caused = c.lookup-answer.ensures.caused;
      passes = c.lookup-answer.ensures.passes;
      names_foreign = c.lookup-answer.ensures.names_foreign;
      answers = c.lookup-answer.ensures.answers;
      completes = c.lookup-answer.ensures.completes;
    })
    (subst (λ q. IsCounted q c.lookup-answer.result c.counted_of-result.result) counting c.counted_of-result.ensures))
