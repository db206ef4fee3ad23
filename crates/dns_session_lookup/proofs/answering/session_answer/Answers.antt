use Rattle.std.proofs.Common.{Some, ap, refl}
use Rattle.dns_cache.specs.CacheLists.{CountedList}
use Rattle.dns_cache.specs.declared.validation_cache.ValidationCache as cache
use Rattle.dns_recorded.specs.contracts.recorded.RecordedDnsHandle.TheImpl as upstream
use Rattle.dns_session_lookup.specs.contracts.verification.SessionVerifierVerifier.TheImpl as tests
use Rattle.dns_session_lookup.proofs.LookupLemmas.{reply_ok, all_known, answers_looked}
use Rattle.dns_session_lookup.proofs.answering.session_answer.Goals as goal

-- what its cache tells
abbrev kept : cache.Ghosts CountedList
kept = record { hits = λ c. c.hits; told = λ c. Some c.list }

pub returns : goal.returns
returns c =
    let made = c.in_ok-made.made in
    let is = c.in_ok-made.ensures in
    answers_looked upstream.ghosts tests.ghosts kept c.args.how c.args.session made.validator c.lookup.new.self made.query
    made.options made.moment c.lookup.result refl is.upstream is.anchors is.verifier is.query
    is.iterations is.options is.moment refl (ap (λ (c : CountedList). c.list) is.cache)
    (record {
      sound = c.lookup.ensures.sound;
      trail = c.lookup.ensures.trail;
      explained = c.lookup.ensures.explained;
      denies = reply_ok c.lookup.result _ c.lookup.ensures.denies;
      denied = c.lookup.ensures.denied;
      caused = c.lookup.ensures.caused;
    })
    (all_known _ _ c.lookup.result c.lookup.ensures.passes c.lookup.ensures.names_foreign
    c.lookup.ensures.answers)
