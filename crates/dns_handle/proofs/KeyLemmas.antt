-- The keys by which replies and answers are found tell questions apart as equality does.
use Rattle.std.proofs.Common.{◌≡◌, Bool, ◌&&◌, ap, ◌∙◌}
use Rattle.std.specs.Prelude.{◌==◌}
use Rattle.std.specs.Cmp.{IsTotalOrder, tied_then}
use Rattle.std.specs.Cmp.Lexicographic.{slice_cmp}
use Rattle.std.specs.Ordering.{is_eq, nat_cmp, ordering_then}
use Rattle.std.proofs.lemmas.Cmp.{then_total, on_total, nat_cmp_total, nat_list_cmp_total}
use Rattle.dns_model.specs.Names.{folded, wire}
use Rattle.dns_model.specs.Records.{Question, question_eq}
use Rattle.dns_model.proofs.OrderLemmas.{nat_ties}
use Rattle.dns_evidence.proofs.WireTies.{wire_ties}
use Rattle.dns_handle.specs.QueryKeys.{key_cmp, key_of}

pub key_total : IsTotalOrder key_cmp
key_total = then_total (on_total (λ k. k.name) nat_list_cmp_total)
    (then_total (on_total (λ k. k.record_type) nat_cmp_total) (on_total (λ k. k.class) nat_cmp_total))

-- questions are equal exactly where the order of their keys doesn't tell them apart
pub key_ties : (a b : Question) → question_eq a b ≡ is_eq (key_cmp (key_of a) (key_of b))
key_ties a b =
    let names = slice_cmp nat_cmp (wire (folded a.owner)) (wire (folded b.owner)) in
    let types = nat_cmp a.rtype b.rtype in
    let classes = nat_cmp a.class b.class in
    let numbers : ((a.rtype == b.rtype) && (a.class == b.class)) ≡ is_eq (ordering_then types classes) =
    ap (λ (e : Bool). e && (a.class == b.class)) (nat_ties a.rtype b.rtype)
    ∙ ap (λ (e : Bool). is_eq types && e) (nat_ties a.class b.class)
    ∙ tied_then types classes in
    ap (λ (e : Bool). e && ((a.rtype == b.rtype) && (a.class == b.class))) (wire_ties a.owner b.owner)
    ∙ ap (λ (e : Bool). is_eq names && e) numbers
    ∙ tied_then names (ordering_then types classes)
