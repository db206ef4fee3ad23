-- The fewest labels of the sets that were met, with one more.
use Rattle.std.proofs.Common.{◌≡◌, ℕ, Bool, true, false, cond, List, [], ◌∷◌, ◌++◌, min, Option, None, Some, refl, ap, ◌∙◌, arith}
use Rattle.std.specs.Option.{option_map_or}
use Rattle.std.specs.List.{filter, filter_map, cons_option}
use Rattle.std.proofs.lemmas.List.{append-nil}
use Rattle.std.proofs.lemmas.List.Elements.{filter-append, filter_map-append}
use Rattle.dns_model.specs.Records.{Question}
use Rattle.dns_rules.specs.MarkedSets.{MarkedSet}
use Rattle.dns_rules.specs.Outcome.{least, is_expanded_for, decider_labels}
use Rattle.dns_outcome.specs.Expansions.{fewer, expanded_labels}

-- the fewest labels of the sets that answer and were expanded
abbrev pub fewest : Question → List MarkedSet → Option ℕ
fewest q sets = least (filter_map decider_labels (filter (is_expanded_for q) sets))

least_step : (m n : ℕ) (o : Option ℕ) → option_map_or (min m) (fewer o (Some n)) m ≡ min (option_map_or (min m) o m) n
least_step m n None = refl
least_step m n (Some k) = omega arith

least-push : (ns : List ℕ) (n : ℕ) → least (ns ++ n ∷ []) ≡ fewer (least ns) (Some n)
unfolding least
least-push [] n = refl
least-push (m ∷ ns) n = ap (λ o. Some (option_map_or (min m) o m)) (least-push ns n) ∙ ap Some (least_step m n (least ns))

none_fewer : (o : Option ℕ) → o ≡ fewer o None
none_fewer None = refl
none_fewer (Some n) = refl

read_step : (ns : List ℕ) (o : Option ℕ) → least (ns ++ cons_option o []) ≡ fewer (least ns) o
read_step ns None = ap least (append-nil ns) ∙ none_fewer (least ns)
read_step ns (Some n) = least-push ns n

one_step : (ns : List ℕ) (x : MarkedSet) (b : Bool)
    → least (ns ++ filter_map decider_labels (cond b (x ∷ []) [])) ≡ fewer (least ns) (cond b (decider_labels x) None)
one_step ns x true = read_step ns (decider_labels x)
one_step ns x false = read_step ns None

pub fewest-push : (q : Question) (sets : List MarkedSet) (x : MarkedSet)
    → fewest q (sets ++ x ∷ []) ≡ fewer (fewest q sets) (expanded_labels q x)
fewest-push q sets x =
    let p = is_expanded_for q in
    ap (λ l. least (filter_map decider_labels l)) (filter-append p sets (x ∷ []))
    ∙ ap least (filter_map-append decider_labels (filter p sets) (filter p (x ∷ [])))
    ∙ one_step (filter_map decider_labels (filter p sets)) x (p x)

-- where none was met there are none
pub fewest_none : (q : Question) → None ≡ fewest q []
unfolding least
fewest_none q = refl
