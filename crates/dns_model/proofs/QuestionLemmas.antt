-- Questions that are the same but for the case of letters.
use Rattle.std.proofs.Common.{◌≡◌, true, ◌==◌, refl, sym, ap, ◌∙◌}
use Rattle.std.specs.Prelude.{◌&&◌}
use Rattle.std.proofs.lemmas.Bool.{and_parts, and_from}
use Rattle.dns_model.specs.Names.{name_eq}
use Rattle.dns_model.specs.Records.{Question, question_eq}
use Rattle.dns_model.proofs.SetLemmas.{name_refl, name_back, name_trans, number_same, number_refl}
use Rattle.dns_model.proofs.TestLemmas.{same_test}

-- two questions are the same
pub record IsSame (a b : Question) : Type 0 where
  pub owner : name_eq a.owner b.owner ≡ true
  pub rtype : a.rtype ≡ b.rtype
  pub class : a.class ≡ b.class

pub same_parts : (a b : Question) → question_eq a b ≡ true → IsSame a b
same_parts a b h =
    let one = and_parts (name_eq a.owner b.owner) ((a.rtype == b.rtype) && (a.class == b.class)) h in
    let two = and_parts (a.rtype == b.rtype) (a.class == b.class) one.1 in
    record { owner = one.0; rtype = number_same a.rtype b.rtype two.0; class = number_same a.class b.class two.1 }

pub same_made : (a b : Question) → IsSame a b → question_eq a b ≡ true
same_made a b is =
    and_from (name_eq a.owner b.owner) ((a.rtype == b.rtype) && (a.class == b.class)) is.owner
    (and_from (a.rtype == b.rtype) (a.class == b.class) (ap (λ t. t == b.rtype) is.rtype ∙ number_refl b.rtype)
    (ap (λ c. c == b.class) is.class ∙ number_refl b.class))

pub question_back : (a b : Question) → question_eq a b ≡ true → question_eq b a ≡ true
question_back a b h =
    let is = same_parts a b h in
    same_made b a (record { owner = name_back a.owner b.owner is.owner; rtype = sym is.rtype; class = sym is.class })

pub question_trans : (a b c : Question) → question_eq a b ≡ true → question_eq b c ≡ true → question_eq a c ≡ true
question_trans a b c h k =
    let one = same_parts a b h in
    let two = same_parts b c k in
    same_made a c (record {
      owner = name_trans a.owner b.owner c.owner one.owner two.owner;
      rtype = one.rtype ∙ two.rtype;
      class = one.class ∙ two.class;
    })

pub question_refl : (q : Question) → question_eq q q ≡ true
question_refl q = same_made q q (record { owner = name_refl q.owner; rtype = refl; class = refl })

-- the same questions are the same to others
pub question_right : (a b q : Question) → question_eq a b ≡ true → question_eq q a ≡ question_eq q b
question_right a b q same =
    same_test (question_eq q a) (question_eq q b) (λ h. question_trans q a b h same)
    (λ h. question_trans q b a h (question_back a b same))
