-- Gathering questions, each once.
use Rattle.std.proofs.Common.{◌≡◌, List, [], ◌∷◌, ◌++◌, Option, None, Some, refl, sym, ap, ◌∙◌, append_assoc, append-nil, inl, inr}
use Rattle.std.specs.List.{list_any, filter_map}
use Rattle.std.specs.Option.{option_to_list}
use Rattle.std.proofs.lemmas.Bool.{cases_Bool}
use Rattle.dns_model.specs.Keys.{AcceptedSignatureValue}
use Rattle.dns_evidence.specs.Listing.{is_entry}
use Rattle.dns_questions.specs.Questions.{each_once}
use Rattle.dns_questions.specs.Gathering.{then_once}

pub then_none : (all : List AcceptedSignatureValue) → then_once all [] ≡ all
unfolding then_once each_once
then_none all = append-nil all

-- a question first, and others after it
pub then_first : (all : List AcceptedSignatureValue) (q : AcceptedSignatureValue) (qs : List AcceptedSignatureValue)
    → then_once all (q ∷ qs) ≡ then_once (then_once all (q ∷ [])) qs
unfolding then_once each_once
then_first all q qs =
    elim (cases_Bool (list_any (is_entry q) all)) [
      | inl is ↦ rw (is, append-nil all) refl
      | inr isnt ↦ rw isnt (sym (append_assoc all (q ∷ []) (each_once (all ++ q ∷ []) qs)))
    ]

-- some questions first, and others after them
pub then_more : (all xs ys : List AcceptedSignatureValue) → then_once all (xs ++ ys) ≡ then_once (then_once all xs) ys
then_more all [] ys = ap (λ front. then_once front ys) (sym (then_none all))
then_more all (x ∷ xs) ys =
    then_first all x (xs ++ ys) ∙ then_more (then_once all (x ∷ [])) xs ys
    ∙ ap (λ front. then_once front ys) (sym (then_first all x xs))

-- ---- a loop that gathers

-- what is left begins with what was added
pub step_kept : (all added whole part rest more : List AcceptedSignatureValue) → rest ≡ part ++ more
    → added ≡ then_once all part → then_once all rest ≡ whole → then_once added more ≡ whole
step_kept all added whole part rest more cut new before =
    ap (λ front. then_once front more) new ∙ sym (then_more all part more) ∙ sym (ap (then_once all) cut) ∙ before

-- nothing is left
pub all_kept : (all whole rest : List AcceptedSignatureValue) → rest ≡ [] → then_once all rest ≡ whole → all ≡ whole
all_kept all whole rest none before = sym (then_none all) ∙ sym (ap (then_once all) none) ∙ before

-- from nothing on
pub once_all : (all : List AcceptedSignatureValue) → then_once [] all ≡ each_once [] all
unfolding then_once
once_all all = refl

-- what a function gives of a value, where it gives something, and of the values after it
pub found_part : {X : Type 0} (f : X → Option AcceptedSignatureValue) (x : X) (xs : List X)
    → filter_map f (x ∷ xs) ≡ option_to_list (f x) ++ filter_map f xs
found_part f x xs = found_by (f x) refl
  where
    found_by : (said : Option AcceptedSignatureValue) → f x ≡ said
        → filter_map f (x ∷ xs) ≡ option_to_list (f x) ++ filter_map f xs
    found_by None e = rw e refl
    found_by (Some q) e = rw e refl
