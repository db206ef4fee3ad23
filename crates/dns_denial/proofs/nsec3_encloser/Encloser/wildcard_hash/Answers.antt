use Rattle.std.proofs.Common.{◌≡◌, ℕ, List, [], Option, None, Some, ap, ◌∙◌}
use Rattle.dns_model.specs.Names.{Labels, star, wire}
use Rattle.dns_model.specs.NameForm.{name_in}
use Rattle.dns_model.proofs.WildcardLemmas.{star_read}
use Rattle.dns_model.proofs.WireLemmas.{first_of_some}
use Rattle.dns_rules.specs.Nsec3Verdict.{hashed}
use Rattle.dns_denial.specs.Enclosers.{EncloserValue}
use Rattle.dns_denial.proofs.nsec3_encloser.Encloser.wildcard_hash.Goals as goal

pub returns-in-Some-clause-hash : goal.returns-in-Some-clause-hash
returns-in-Some-clause-hash g c =
    let name : Labels = c.args.self.now.name in
    let inside : c.self.inside.name ≡ name = ap (λ (e : EncloserValue). e.name) c.self.view_is in
    let bytes : c.as_slice.result.now ≡ wire (star name) =
    c.as_slice.ensures.value ∙ c.wildcard_below-bytes.ensures ∙ ap (λ (n : Labels). wire (star n)) inside in
    let read : name_in c.as_slice.result.now ≡ Some (star name, []) = ap name_in bytes
    ∙ star_read name c.requires.is_name in
    let same : c.in-Some.wildcard ≡ star name = first_of_some (c.in-Some.ensures ∙ read) in
    c.hash.ensures.hash ∙ ap (hashed c.args.by.now) same

pub returns-in-None-clause-hash : goal.returns-in-None-clause-hash
returns-in-None-clause-hash g c =
    let name : Labels = c.args.self.now.name in
    let inside : c.self.inside.name ≡ name = ap (λ (e : EncloserValue). e.name) c.self.view_is in
    let bytes : c.as_slice.result.now ≡ wire (star name) =
    c.as_slice.ensures.value ∙ c.wildcard_below-bytes.ensures ∙ ap (λ (n : Labels). wire (star n)) inside in
    let read : name_in c.as_slice.result.now ≡ Some (star name, []) = ap name_in bytes
    ∙ star_read name c.requires.is_name in
    let none : ◌≡◌ {A = Option (Labels × List ℕ)} None (Some (star name, [])) = c.in-None.ensures ∙ read in
    cc
