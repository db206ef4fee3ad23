-- The walk that counts, as code takes it: ask by ask, set by set, and a step by its sets and its excuse.
use Rattle.std.proofs.Common.{◌≡◌, ℕ, suc, ◌+◌, ◌≤◌, ◌<◌, Bool, true, false, ◌==◌, List, ◌∷◌, length, drop, get_or, Option, None, Some, slice_get, nat_lt, if◌then◌else◌, refl, sym, ap, ◌∙◌, arith}
use Rattle.std.specs.Option.{option_and_then}
use Rattle.std.proofs.lemmas.Bool.{lt-ltb, and_from}
use Rattle.std.proofs.lemmas.Bool.Decides.{nat_tests}
use Rattle.std.proofs.lemmas.List.{drop_more, drop_all}
use Rattle.dns_model.specs.declared.trail.AskRef.{AskRef}
use Rattle.dns_model.specs.declared.trail.AskRef.TheVariants.{Step}
use Rattle.dns_model.specs.Trails.{AskedValue, JudgedSetValue}
use Rattle.dns_rules.specs.Asking.{most_sends}
use Rattle.dns_rules.specs.Derivation.{asks_of}
use Rattle.dns_rules.specs.DerivationParts.{and_then_some, asks_of_sets}
use Rattle.dns_trail.specs.declared.order.Counts.{Counts}
use Rattle.dns_trail.specs.Counting.{count_ask, count_asks, count_step, one_sent, end_at}
use Rattle.dns_trail.proofs.CountLemmas.{count_asks-append, any_above}

-- ---- asks

-- the walk over the asks that are left goes on behind the ask at a place
asks_from : (visit : ℕ → Counts → Option Counts) (n : ℕ) (asks : List AskRef) (i : ℕ) (ask : AskRef) (counts : Counts)
    → i < length asks
    → count_asks visit n (drop i asks) counts
    ≡ and_then_some (count_ask visit n (get_or asks i ask) counts) (count_asks visit n (drop (i + 1) asks))
unfolding count_asks
asks_from visit n asks i ask counts within = ap (λ xs. count_asks visit n xs counts) (drop_more asks i ask within)

pub asks_next : (visit : ℕ → Counts → Option Counts) (n : ℕ) (asks : List AskRef) (i : ℕ) (ask : AskRef)
    (counts next : Counts) (whole : Option Counts)
    → i < length asks → count_ask visit n (get_or asks i ask) counts ≡ Some next
    → count_asks visit n (drop i asks) counts ≡ whole
    → count_asks visit n (drop (i + 1) asks) next ≡ whole
asks_next visit n asks i ask counts next whole within one rest =
    sym (asks_from visit n asks i ask counts within ∙ ap (λ o. and_then_some o (count_asks visit n (drop (i + 1) asks))) one)
    ∙ rest

pub asks_cut : (visit : ℕ → Counts → Option Counts) (n : ℕ) (asks : List AskRef) (i : ℕ) (ask : AskRef)
    (counts : Counts) (whole : Option Counts)
    → i < length asks → count_ask visit n (get_or asks i ask) counts ≡ None
    → count_asks visit n (drop i asks) counts ≡ whole → None ≡ whole
asks_cut visit n asks i ask counts whole within one rest =
    sym (asks_from visit n asks i ask counts within ∙ ap (λ o. and_then_some o (count_asks visit n (drop (i + 1) asks))) one)
    ∙ rest

pub asks_end : (visit : ℕ → Counts → Option Counts) (n : ℕ) (asks : List AskRef) (i : ℕ) (counts : Counts)
    (whole : Option Counts)
    → length asks ≤ i → count_asks visit n (drop i asks) counts ≡ whole → Some counts ≡ whole
unfolding count_asks
asks_end visit n asks i counts whole past rest =
    sym (ap (λ xs. count_asks visit n xs counts) (drop_all i asks past)) ∙ rest

-- ---- sets

sets_from : (visit : ℕ → Counts → Option Counts) (n : ℕ) (sets : List JudgedSetValue) (i : ℕ) (set : JudgedSetValue)
    (asked : List AskRef)
    (counts : Counts) → i < length sets → set ≡ get_or sets i set → asked ≡ set.asked
    → count_asks visit n (asks_of_sets (drop i sets)) counts
    ≡ and_then_some (count_asks visit n asked counts) (count_asks visit n (asks_of_sets (drop (i + 1) sets)))
sets_from visit n sets i set asked counts within is own =
    ap (λ xs. count_asks visit n (asks_of_sets xs) counts)
    (drop_more sets i set within ∙ ap (λ s. s ∷ drop (i + 1) sets) (sym is))
    ∙ count_asks-append visit n set.asked (asks_of_sets (drop (i + 1) sets)) counts
    ∙ ap (λ xs. and_then_some (count_asks visit n xs counts) (count_asks visit n (asks_of_sets (drop (i + 1) sets))))
    (sym own)

pub sets_next : (visit : ℕ → Counts → Option Counts) (n : ℕ) (sets : List JudgedSetValue) (i : ℕ) (set : JudgedSetValue)
    (asked : List AskRef)
    (counts next : Counts) (whole : Option Counts) → i < length sets → set ≡ get_or sets i set → asked ≡ set.asked
    → count_asks visit n asked counts ≡ Some next
    → count_asks visit n (asks_of_sets (drop i sets)) counts ≡ whole
    → count_asks visit n (asks_of_sets (drop (i + 1) sets)) next ≡ whole
sets_next visit n sets i set asked counts next whole within is own one rest =
    sym (sets_from visit n sets i set asked counts within is own
    ∙ ap (λ o. and_then_some o (count_asks visit n (asks_of_sets (drop (i + 1) sets)))) one) ∙ rest

pub sets_cut : (visit : ℕ → Counts → Option Counts) (n : ℕ) (sets : List JudgedSetValue) (i : ℕ) (set : JudgedSetValue)
    (asked : List AskRef)
    (counts : Counts) (whole : Option Counts) → i < length sets → set ≡ get_or sets i set → asked ≡ set.asked
    → count_asks visit n asked counts ≡ None
    → count_asks visit n (asks_of_sets (drop i sets)) counts ≡ whole → None ≡ whole
sets_cut visit n sets i set asked counts whole within is own one rest =
    sym (sets_from visit n sets i set asked counts within is own
    ∙ ap (λ o. and_then_some o (count_asks visit n (asks_of_sets (drop (i + 1) sets)))) one) ∙ rest

pub sets_end : (visit : ℕ → Counts → Option Counts) (n : ℕ) (sets : List JudgedSetValue) (i : ℕ) (counts : Counts)
    (whole : Option Counts)
    → length sets ≤ i → count_asks visit n (asks_of_sets (drop i sets)) counts ≡ whole → Some counts ≡ whole
unfolding count_asks
sets_end visit n sets i counts whole past rest =
    sym (ap (λ xs. count_asks visit n (asks_of_sets xs) counts) (drop_all i sets past)) ∙ rest

-- ---- a step

pub step_none : (trail : List AskedValue) (n : ℕ) (counts : Counts) → slice_get trail n ≡ None
    → None ≡ count_step (suc n) trail n counts
unfolding count_step
step_none trail n counts is =
    sym (ap (λ o. option_and_then (λ step. option_and_then (end_at n)
    (count_asks (count_step n trail) n (asks_of step) (one_sent counts))) o) is)

-- the counts after the sets of a step, and those after its excuse too
pub step_from : (trail : List AskedValue) (n : ℕ) (step : AskedValue) (sets : List JudgedSetValue)
    (excuse : List AskRef) (counts : Counts)
    (judged asked : Option Counts) → slice_get trail n ≡ Some step → sets ≡ step.sets → excuse ≡ step.excuse
    → count_asks (count_step n trail) n (asks_of_sets sets) (one_sent counts) ≡ judged
    → and_then_some judged (count_asks (count_step n trail) n excuse) ≡ asked
    → and_then_some asked (end_at n) ≡ count_step (suc n) trail n counts
unfolding count_step
step_from trail n step sets excuse counts judged asked is own_sets own_excuse over_sets over_excuse =
    sym (ap (λ o. option_and_then (λ s. option_and_then (end_at n) (count_asks (count_step n trail) n (asks_of s) (one_sent counts))) o) is
    ∙ ap (option_and_then (end_at n))
    (count_asks-append (count_step n trail) n (asks_of_sets step.sets) step.excuse (one_sent counts)
    ∙ ap (λ xs. and_then_some (count_asks (count_step n trail) n (asks_of_sets xs) (one_sent counts))
    (count_asks (count_step n trail) n step.excuse)) (sym own_sets)
    ∙ ap (λ xs. and_then_some (count_asks (count_step n trail) n (asks_of_sets sets) (one_sent counts))
    (count_asks (count_step n trail) n xs)) (sym own_excuse)
    ∙ ap (λ o. and_then_some o (count_asks (count_step n trail) n excuse)) over_sets ∙ over_excuse))

pub ended_here : (n : ℕ) (counts : Counts) → counts.ended ≡ n
    → Some (record { sent = counts.sent; ended = n + 1 }) ≡ end_at n counts
ended_here n counts is = grind (arith, nat_tests)

pub ended_elsewhere : (n : ℕ) (counts : Counts) → (counts.ended ≡ n → ⊥) → None ≡ end_at n counts
ended_elsewhere n counts differ = by_test (counts.ended == n) refl
  where
    by_test : (test : Bool) → (counts.ended == n) ≡ test → None ≡ end_at n counts
    by_test true is = absurd (differ (grind (arith, nat_tests)))
    by_test false is = sym (ap (λ b. if b then Some (record { sent = counts.sent; ended = n + 1 }) else None) is)

-- an ask that is a step before
pub step_asked : (trail : List AskedValue) (n m : ℕ) (ask : AskRef) (counts : Counts) → m < n → counts.sent < most_sends
    → ask ≡ Step m
    → count_step (suc m) trail m counts ≡ count_ask (count_step n trail) n ask counts
unfolding count_ask
step_asked trail n m ask counts before few is =
    any_above trail (suc m) n m counts (omega arith) before
    ∙ ap (λ b. if b then count_step n trail m counts else None)
    (sym (and_from (nat_lt m n) (nat_lt counts.sent most_sends) (lt-ltb m n before) (lt-ltb counts.sent most_sends few)))
    ∙ ap (λ a. count_ask (count_step n trail) n a counts) (sym is)
