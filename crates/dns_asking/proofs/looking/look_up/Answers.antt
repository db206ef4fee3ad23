use Rattle.std.proofs.Common.{Some, sym, subst, refl}
use Rattle.dns_cache.specs.CacheLists.{CountedList}
use Rattle.dns_cache.specs.declared.validation_cache.ValidationCache as cache
use Rattle.dns_handle.specs.Replies.{reply_of}
use Rattle.dns_asking.specs.Lookups.{LooksUp}
use Rattle.dns_asking.proofs.LookupLemmas.{looks_up, not_looked_up}
use Rattle.dns_asking.proofs.looking.look_up.Goals as goal

pub returns-in_default : goal.returns-in_default
returns-in_default g c = not_looked_up g.H.DnsHandle g.V.Verifier c.args.inquiry c.args.handle

-- what its cache tells
abbrev kept : cache.Ghosts CountedList
kept = record { hits = λ c. c.hits; told = λ c. Some c.list }

pub returns : goal.returns
returns g c =
    subst (λ h. LooksUp g.H.DnsHandle g.V.Verifier c.args.inquiry c.args.handle h (reply_of c.lookup-reply.result))
    (sym c.into_inner.ensures)
    (looks_up g.H.DnsHandle g.V.Verifier kept c.args.inquiry c.args.handle _ _ c.lookup-reply.new.self
    c.options_to.result c.lookup-reply.result c.in-Ok-with_cache.ensures.all c.options_to.ensures refl
    c.in-Ok.ensures
    (record {
      sends = c.lookup-reply.ensures.sends;
      front = c.lookup-reply.ensures.front;
      sound = c.lookup-reply.ensures.sound;
      trail = c.lookup-reply.ensures.trail;
      cached = c.lookup-reply.ensures.cached;
      explained = c.lookup-reply.ensures.explained;
      denies = c.lookup-reply.ensures.denies;
      denied = c.lookup-reply.ensures.denied;
      caused = c.lookup-reply.ensures.caused;
      passes = c.lookup-reply.ensures.passes;
      names_foreign = c.lookup-reply.ensures.names_foreign;
      answers = c.lookup-reply.ensures.answers;
      completes = c.lookup-reply.ensures.completes;
    }))
