use Rattle.std.proofs.Common.{◌≡◌, ◌==◌, ℕ, List, [], Option, None, Some, ap, ◌∙◌}
use Rattle.std.specs.Prelude.{is_some, if◌then◌else◌}
use Rattle.dns_model.specs.Names.{Labels, star}
use Rattle.dns_model.specs.NameForm.{name_in}
use Rattle.dns_model.proofs.WireLemmas.{first_of_some}
use Rattle.dns_model.proofs.WildcardLemmas.{star_read}
use Rattle.dns_rules.specs.Covering.{nsec_covering}
use Rattle.dns_rules.specs.NsecVerdict.{code_nx_domain, wildcard_denies}
use Rattle.dns_denial.proofs.verdict.is_wildcard_denied.Goals as goal

pub returns-in-Some-clause-denied : goal.returns-in-Some-clause-denied
returns-in-Some-clause-denied g c =
    let star_name : Labels = star c.args.encloser.now in
    let read : name_in c.as_slice.result.now ≡ Some (star_name, []) = ap
    name_in (c.as_slice.ensures.value ∙ c.wildcard_below-bytes.ensures)
    ∙ star_read c.args.encloser.now c.requires in
    let same : c.in-Some.wildcard ≡ star_name = first_of_some (c.in-Some.ensures ∙ read) in
    c.denies_wildcard.ensures.denied
    ∙ ap (λ (n : Labels). if c.args.code.0 == code_nx_domain then is_some (nsec_covering n (g.R.NsecRecords.records c.args.records.now))
    else wildcard_denies c.args.record_type.0 n (g.R.NsecRecords.records c.args.records.now)) same

pub returns-in-None-clause-denied : goal.returns-in-None-clause-denied
returns-in-None-clause-denied g c =
    let star_name : Labels = star c.args.encloser.now in
    let read : name_in c.as_slice.result.now ≡ Some (star_name, []) = ap
    name_in (c.as_slice.ensures.value ∙ c.wildcard_below-bytes.ensures)
    ∙ star_read c.args.encloser.now c.requires in
    let none : ◌≡◌ {A = Option (Labels × List ℕ)} None (Some (star_name, [])) = c.in-None.ensures ∙ read in
    cc
