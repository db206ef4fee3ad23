-- A walk from the top step on is a derivation.
use Rattle.std.proofs.Common.{◌≡◌, ℕ, zero, suc, ◌+◌, ◌-◌, ◌≤◌, ◌<◌, Bool, true, ◌==◌, ◌&&◌, List, [], ◌∷◌, ◌++◌, length, Option, Some, slice_get, nat_eq, nat_le, refl, sym, ap, ◌∙◌, subst, arith, if◌then◌else◌}
use Rattle.std.specs.Option.{option_eq}
use Rattle.std.specs.List.{list_all, range_with_len, cons_option}
use Rattle.std.proofs.lemmas.Bool.{le-leb, and_from}
use Rattle.std.proofs.lemmas.Bool.Decides.{nat_tests}
use Rattle.std.proofs.lemmas.List.{length_push}
use Rattle.dns_model.specs.Chains.{Judge}
use Rattle.dns_model.specs.Trails.{AskedValue}
use Rattle.dns_model.proofs.Lists.{slice_get_appended}
use Rattle.dns_rules.specs.Asking.{Limits, most_sends, effective}
use Rattle.dns_rules.specs.CacheEntries.{EntryValue}
use Rattle.dns_rules.specs.Derivation.{step_holds, steps_hold, asks_of, order_step, send_order, end_step, top_step, in_send_order, has_order, derivation}
use Rattle.dns_rules.specs.DerivationParts.{is_each_met_once, is_top, steps_at}
use Rattle.dns_rules.specs.Parts.{once_between, TrailPart}
use Rattle.dns_rules.proofs.EndLemmas.{end_step_at}
use Rattle.dns_rules.proofs.PartLemmas.{part_grows, step_met, steps_hold_more}
use Rattle.dns_rules.proofs.SentLemmas.{times, times-cons, numbered, part_sent, sent_stays}

-- ---- the order from the last step on

last_number : (b : List AskedValue) (step : AskedValue) → length (b ++ step ∷ []) - 1 ≡ length b
last_number b step = let longer = length_push b step in omega arith

as_suc : (b : List AskedValue) (step : AskedValue) → length (b ++ step ∷ []) ≡ suc (length b)
as_suc b step = let longer = length_push b step in omega arith

pub top_step_is : (b : List AskedValue) (step : AskedValue) → top_step (b ++ step ∷ []) ≡ Some step
top_step_is b step = ap (slice_get (b ++ step ∷ [])) (last_number b step) ∙ slice_get_appended b step []

pub send_order_is : (j : Judge) (limits : Limits) (cached : List EntryValue) (b : List AskedValue) (step : AskedValue)
    (m : ℕ) (p : TrailPart j limits cached [] b (asks_of step) 1 m)
    → send_order (b ++ step ∷ []) ≡ Some (length b ∷ p.order)
send_order_is j limits cached b step m p =
    let trail = b ++ step ∷ [] in
    ap (λ above. order_step above trail (length trail - 1) []) (as_suc b step)
    ∙ ap (λ n. order_step (suc (length b)) trail n []) (last_number b step)
    ∙ step_met j limits cached [] b step 0 m p [] (length b) [] refl (omega arith)

-- ---- how many steps

pub top_counts : (j : Judge) (limits : Limits) (cached : List EntryValue) (b : List AskedValue) (step : AskedValue)
    (m : ℕ) → TrailPart j limits cached [] b (asks_of step) 1 m
    → length (b ++ step ∷ []) ≡ m
top_counts j limits cached b step m p =
    let longer = part_grows j limits cached [] b (asks_of step) 1 m p in
    let one = length_push b step in
    omega (arith, p.counted)

-- ---- each once

pub all_in_range : (test : ℕ → Bool) (a n : ℕ) → ((k : ℕ) → a ≤ k → k < a + n → test k ≡ true) → list_all test (range_with_len a n) ≡ true
all_in_range test a zero each = refl
all_in_range test a (suc n) each =
    and_from (test a) (list_all test (range_with_len (a + 1) n)) (each a (omega arith) (omega arith))
    (all_in_range test (a + 1) n (λ k from upto. each k (omega arith) (omega arith)))

once_or_top : (b k : ℕ) → k < b + 1 → (if k == b then 1 else 0) + once_between 0 b k ≡ 1
once_or_top b k within = grind (arith, nat_tests)

pub one_is_one : (n : ℕ) → n ≡ 1 → (n == 1) ≡ true
one_is_one n is = grind (arith, nat_tests)

top_once : (j : Judge) (limits : Limits) (cached : List EntryValue) (b : List AskedValue) (step : AskedValue) (m : ℕ)
    (p : TrailPart j limits cached [] b (asks_of step) 1 m)
    → is_each_met_once (length (b ++ step ∷ [])) (Some (length b ∷ p.order)) ≡ true
top_once j limits cached b step m p =
    let one = length_push b step in
    all_in_range (λ k. times k (length b ∷ p.order) == 1) 0 (length (b ++ step ∷ []))
    (λ k from upto. one_is_one (times k (length b ∷ p.order))
    (times-cons k (length b) p.order ∙ ap (λ t. (if k == length b then 1 else 0) + t) (p.once k) ∙ once_or_top (length b) k (omega arith)))

nat_same : (n : ℕ) → nat_eq n n ≡ true
nat_same n = grind (arith, nat_tests)

same_some : (a b : ℕ) (o : Option ℕ) → o ≡ Some a → a ≡ b → option_eq nat_eq o (Some b) ≡ true
same_some a b o is same = ap (λ x. option_eq nat_eq x (Some b)) is ∙ ap (λ x. nat_eq x b) same ∙ nat_same b

-- the steps of the trail end in the order of their numbers
top_ends : (j : Judge) (limits : Limits) (cached : List EntryValue) (b : List AskedValue) (step : AskedValue) (m : ℕ)
    (p : TrailPart j limits cached [] b (asks_of step) 1 m)
    → option_eq nat_eq (end_step (length (b ++ step ∷ [])) (b ++ step ∷ []) (length (b ++ step ∷ []) - 1) 0)
    (Some (length (b ++ step ∷ []))) ≡ true
top_ends j limits cached b step m p =
    let one : length (b ++ step ∷ []) ≡ suc (length b) = as_suc b step in
    let last : length (b ++ step ∷ []) - 1 ≡ length b = last_number b step in
    let ended : end_step (suc (length b)) (b ++ step ∷ []) (length b) 0 ≡ Some (length b + 1) =
    end_step_at (length b) b [] step 0 (p.ends (step ∷ []) (length b) (omega arith)) in
    let is : end_step (length (b ++ step ∷ [])) (b ++ step ∷ []) (length (b ++ step ∷ []) - 1) 0 ≡ Some (length b + 1) =
    ap (λ k. end_step k (b ++ step ∷ []) (length (b ++ step ∷ []) - 1) 0) one
    ∙ ap (λ k. end_step (suc (length b)) (b ++ step ∷ []) k 0) last ∙ ended in
    same_some (length b + 1) (length (b ++ step ∷ []))
    (end_step (length (b ++ step ∷ [])) (b ++ step ∷ []) (length (b ++ step ∷ []) - 1) 0) is (sym (length_push b step))

-- ---- the whole

-- the top step of a walk, with all that it asked
pub record IsTopOf (j : Judge) (d : Limits) (cached : List EntryValue) (b : List AskedValue) (step : AskedValue) (m : ℕ) : Type 0 where
  pub part : TrailPart j (effective d) cached [] b (asks_of step) 1 m
  pub holds : step_holds j (effective d) cached b step ≡ true
  pub top : is_top (Some step) ≡ true
  pub few : m ≤ most_sends

pub top_derivation : (j : Judge) (d : Limits) (cached : List EntryValue) (b : List AskedValue) (step : AskedValue)
    (m : ℕ) → IsTopOf j d cached b step m → derivation j d cached (b ++ step ∷ []) ≡ true
unfolding derivation has_order
top_derivation j d cached b step m top =
    let trail = b ++ step ∷ [] in
    let p = top.part in
    let counts = top_counts j (effective d) cached b step m p in
    let is_short : nat_le (length trail) most_sends ≡ true = le-leb (length trail) most_sends (omega (arith, top.few)) in
    let is_top_step : is_top (top_step trail) ≡ true = ap is_top (top_step_is b step) ∙ top.top in
    let once : is_each_met_once (length trail) (send_order trail) ≡ true =
    ap (is_each_met_once (length trail)) (send_order_is j (effective d) cached b step m p)
    ∙ top_once j (effective d) cached b step m p in
    let whole : b ≡ p.more = p.grown in
    let hold : steps_hold j (effective d) cached [] trail ≡ true =
    steps_hold_more j (effective d) cached [] b step (subst (λ t. steps_hold j (effective d) cached [] t ≡ true) (sym whole) p.hold)
    top.holds in
    let ended = option_eq nat_eq (end_step (length trail) trail (length trail - 1) 0) (Some (length trail)) in
    let ends : ended ≡ true = top_ends j (effective d) cached b step m p in
    let sent = is_each_met_once (length trail) (send_order trail) in
    and_from (has_order trail) (steps_hold j (effective d) cached [] trail)
    (and_from (nat_le (length trail) most_sends) (is_top (top_step trail) && (sent && ended)) is_short
    (and_from (is_top (top_step trail)) (sent && ended) is_top_step (and_from sent ended once ends)))
    hold

-- its steps in the order of the sends: the top step, and what its asks sent
pub top_sent : (j : Judge) (limits : Limits) (cached : List EntryValue) (b : List AskedValue) (step : AskedValue)
    (m : ℕ) (p : TrailPart j limits cached [] b (asks_of step) 1 m)
    → in_send_order (b ++ step ∷ []) ≡ step ∷ part_sent p
top_sent j limits cached b step m p =
    let trail = b ++ step ∷ [] in
    ap (steps_at trail) (send_order_is j limits cached b step m p)
    ∙ ap (λ o. cons_option o (numbered trail p.order)) (slice_get_appended b step [])
    ∙ ap (λ t. step ∷ t) (sent_stays j limits cached [] b (asks_of step) 1 m p (step ∷ []))
