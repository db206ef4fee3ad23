use Rattle.std.proofs.Common.{ap, ◌∙◌}
use Rattle.dns_rules.specs.ListedTypes.{wildcard_lacks}
use Rattle.dns_rules.specs.NsecVerdict.{wildcard_denies}
use Rattle.dns_aggressive.proofs.NsecSearch.{denies_found, denies_none}
use Rattle.dns_aggressive.proofs.nsec_group.NsecGroupNsecRecords.wildcard_denies.Goals as goal

pub returns-in-Some-clause-denies : goal.returns-in-Some-clause-denies
returns-in-Some-clause-denies c =
    let rtype = c.args.record_type.0 in
    c.wildcard_lacks.ensures ∙ ap (wildcard_lacks rtype) c.type_set.ensures
    ∙ denies_found c.self.inside.run c.self.inside.reaching.now c.self.inside.moment c.self.invariant
    c.args.wildcard.now rtype c.in-Some.nsec.now c.in-Some.ensures
    ∙ ap (wildcard_denies rtype c.args.wildcard.now) c.self.view_is

pub returns-in-None-clause-denies : goal.returns-in-None-clause-denies
returns-in-None-clause-denies c =
    let rtype = c.args.record_type.0 in
    denies_none c.self.inside.run c.self.inside.reaching.now c.self.inside.moment c.self.invariant
    c.args.wildcard.now rtype c.in-None.ensures
    ∙ ap (wildcard_denies rtype c.args.wildcard.now) c.self.view_is
