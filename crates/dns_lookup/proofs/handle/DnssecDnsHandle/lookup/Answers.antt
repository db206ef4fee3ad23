use Rattle.dns_lookup.proofs.LookupAnswerLemmas.{lookup_sound, lookup_trail, lookup_denied}
use Rattle.dns_lookup.proofs.CauseLemmas.{lookup_passes}
use Rattle.dns_lookup.proofs.ForeignLemmas.{lookup_names_foreign, lookup_caused}
use Rattle.dns_lookup.proofs.AnsweredLemmas.{lookup_answers}
use Rattle.dns_lookup.proofs.DenyingLemmas.{lookup_explained, lookup_shows}
use Rattle.dns_lookup.proofs.CompletingLemmas.{lookup_completes}
use Rattle.dns_lookup.proofs.FrontLemmas.{unsent_alike}
use Rattle.dns_lookup.proofs.handle.DnssecDnsHandle.lookup.Goals as goal

pub returns-clause-sends : goal.returns-clause-sends
returns-clause-sends g c =
    unsent_alike g.H.DnsHandle c.args.options c.args.now _ _ c.args.query c.look_up-reply.result
    c.look_up-reply.ensures.sends

pub returns-clause-sound : goal.returns-clause-sound
returns-clause-sound g c = lookup_sound g.H.DnsHandle _ _ c.look_up-reply.ensures.lookup

pub returns-clause-trail : goal.returns-clause-trail
returns-clause-trail g c = lookup_trail g.H.DnsHandle _ _ c.look_up-reply.ensures.lookup

pub returns-clause-explained : goal.returns-clause-explained
returns-clause-explained g c = lookup_explained g.H.DnsHandle _ _ c.look_up-reply.ensures.lookup

pub returns-clause-denies : goal.returns-clause-denies
returns-clause-denies g c = lookup_shows g.H.DnsHandle _ _ c.look_up-reply.ensures.lookup

pub returns-clause-denied : goal.returns-clause-denied
returns-clause-denied g c = lookup_denied g.H.DnsHandle _ _ c.look_up-reply.ensures.lookup

pub returns-clause-caused : goal.returns-clause-caused
returns-clause-caused g c = lookup_caused g.H.DnsHandle _ _ c.look_up-reply.ensures.lookup

pub returns-clause-passes : goal.returns-clause-passes
returns-clause-passes g c = lookup_passes g.H.DnsHandle _ _ c.look_up-reply.ensures.lookup

pub returns-clause-names_foreign : goal.returns-clause-names_foreign
returns-clause-names_foreign g c = lookup_names_foreign g.H.DnsHandle _ _ c.look_up-reply.ensures.lookup

pub returns-clause-answers : goal.returns-clause-answers
returns-clause-answers g c = lookup_answers g.H.DnsHandle _ _ c.look_up-reply.ensures.lookup

pub returns-clause-completes : goal.returns-clause-completes
returns-clause-completes g c = lookup_completes g.H.DnsHandle _ _ c.look_up-reply.ensures.lookup
