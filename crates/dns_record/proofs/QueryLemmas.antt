-- Equal queries: names that differ in case alone, one type and one class.
use Rattle.std.proofs.Common.{◌≡◌, Bool, ◌&&◌, refl, ap, ◌∙◌, IsTrue}
use Rattle.std.specs.Prelude.{◌==◌, ◌↔◌}
use Rattle.std.specs.Cmp.{tied_then}
use Rattle.std.specs.Ordering.{nat_cmp, is_eq, ordering_then}
use Rattle.std.proofs.lemmas.Bool.{and_parts}
use Rattle.std.proofs.lemmas.Bool.Decides.{Decides-eqb}
use Rattle.dns_model.specs.Names.{folded, name_eq, name_cmp}
use Rattle.dns_model.specs.Records.{Question, question_eq}
use Rattle.dns_model.proofs.NameLemmas.{name_eq-Decides}
use Rattle.dns_model.proofs.OrderLemmas.{name_ties, nat_ties}

-- what `question_eq` tests
abbrev pub AreEqual : Question → Question → Type 0
AreEqual a b = (folded a.owner ≡ folded b.owner) × (a.rtype ≡ b.rtype) × (a.class ≡ b.class)

pub question_eq-parts : (a b : Question) → IsTrue (question_eq a b) ↔ AreEqual a b
question_eq-parts a b =
    let names = name_eq-Decides a.owner b.owner in
    let kinds = Decides-eqb a.rtype b.rtype in
    let classes = Decides-eqb a.class b.class in (
      λ h. let outer = and_parts (name_eq a.owner b.owner) ((a.rtype == b.rtype) && (a.class == b.class)) h in
          let inner = and_parts (a.rtype == b.rtype) (a.class == b.class) outer.1 in
          (names.0 outer.0, kinds.0 inner.0, classes.0 inner.1),
      λ h. rw (names.1 h.0, kinds.1 h.1, classes.1 h.2) refl,
    )

-- queries are equal exactly where the order by name, type and class does not tell them apart
pub question_ties : (a b : Question)
    → question_eq a b ≡ is_eq (ordering_then (name_cmp a.owner b.owner) (ordering_then (nat_cmp a.rtype b.rtype) (nat_cmp a.class b.class)))
question_ties a b =
    let names = name_cmp a.owner b.owner in
    let kinds = nat_cmp a.rtype b.rtype in
    let classes = nat_cmp a.class b.class in
    let numbers : ((a.rtype == b.rtype) && (a.class == b.class)) ≡ is_eq (ordering_then kinds classes) =
    ap (λ (e : Bool). e && (a.class == b.class)) (nat_ties a.rtype b.rtype)
    ∙ ap (λ (e : Bool). is_eq kinds && e) (nat_ties a.class b.class)
    ∙ tied_then kinds classes in
    ap (λ (e : Bool). e && ((a.rtype == b.rtype) && (a.class == b.class))) (name_ties a.owner b.owner)
    ∙ ap (λ (e : Bool). is_eq names && e) numbers
    ∙ tied_then names (ordering_then kinds classes)
