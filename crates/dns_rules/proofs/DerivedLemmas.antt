-- What a derivation gives: how deep its steps are, and that each was sent once, the top step first.
use Rattle.std.proofs.Common.{◌≡◌, ℕ, zero, suc, ◌+◌, ◌-◌, ◌≤◌, ◌<◌, Bool, true, false, ◌==◌, ◌&&◌, List, [], ◌∷◌, ◌++◌, length, take, drop, Option, None, Some, slice_get, nat_eq, nat_le, if◌then◌else◌, All, append-nil, refl, sym, ap, ◌∙◌, subst, arith}
use Rattle.std.specs.Option.{option_eq}
use Rattle.std.specs.List.{count_by, cons_option, AllByRecursion}
use Rattle.std.proofs.lemmas.Bool.{and_parts, leb-true}
use Rattle.std.proofs.lemmas.List.{append_assoc, take-append-drop}
use Rattle.std.proofs.lemmas.Option.{slice_get_within, get_or_from_slice_get}
use Rattle.dns_model.specs.declared.trail.AskRef.{AskRef}
use Rattle.dns_model.specs.declared.trail.AskRef.TheVariants.{Step, TooDeep, TooMany}
use Rattle.dns_model.specs.Chains.{Judge}
use Rattle.dns_model.specs.Trails.{AskedValue}
use Rattle.dns_model.proofs.EachLemmas.{each_more}
use Rattle.dns_model.proofs.SetLemmas.{number_same}
use Rattle.dns_rules.specs.Asking.{Limits, most_sends, depth_limit, effective}
use Rattle.dns_rules.specs.CacheEntries.{EntryValue}
use Rattle.dns_rules.specs.Derivation.{step_holds, steps_hold, asks_of, send_order, end_step, top_step, in_send_order, has_order, derivation}
use Rattle.dns_rules.specs.DerivationParts.{is_each_met_once, step_context_of, is_top, steps_at}
use Rattle.dns_rules.proofs.ExtendLemmas.{place_same}
use Rattle.dns_rules.proofs.StayLemmas.{slice_get-stays}
use Rattle.dns_rules.proofs.AskLemmas.{IsAskOf, step_asks, step_made}
use Rattle.dns_rules.proofs.SentLemmas.{AreBelow, times, times-cons, numbered}
use Rattle.dns_rules.proofs.SendOrderLemmas.{OfAsk, HandsOn, BeginsWith, step_begins, each_in_range, as_many}

-- ---- the parts of a derivation

pub record TopIs (o : Option AskedValue) : Type 0 where
  pub step : AskedValue
  pub found : o ≡ Some step
  pub judged : step.judged ≡ true
  pub top : step.depth ≡ 0

pub record EachOnce (n : ℕ) (o : Option (List ℕ)) : Type 0 where
  pub order : List ℕ
  pub found : o ≡ Some order
  pub once : (k : ℕ) → k < n → times k order ≡ 1

pub record Derived (j : Judge) (d : Limits) (cached : List EntryValue) (trail : List AskedValue) : Type 0 where
  pub few : length trail ≤ most_sends
  pub top : TopIs (top_step trail)
  pub sent : EachOnce (length trail) (send_order trail)
  pub ends : end_step (length trail) trail (length trail - 1) 0 ≡ Some (length trail)
  pub hold : steps_hold j (effective d) cached [] trail ≡ true

top_is : (o : Option AskedValue) → is_top o ≡ true → TopIs o
top_is None h = cc
top_is (Some step) h =
    let parts = and_parts step.judged (step.depth == 0) h in
    record { step = step; found = refl; judged = parts.0; top = number_same step.depth 0 parts.1 }

each_once : (n : ℕ) (o : Option (List ℕ)) → is_each_met_once n o ≡ true → EachOnce n o
each_once n None h = cc
each_once n (Some order) h = record {
  order = order;
  found = refl;
  once = λ k below. number_same (times k order) 1
      (each_in_range (λ i. count_by (λ m. i == m) order == 1) 0 n h k (omega arith) (omega arith));
}

pub derivation_parts : (j : Judge) (d : Limits) (cached : List EntryValue) (trail : List AskedValue)
    → derivation j d cached trail ≡ true → Derived j d cached trail
unfolding derivation has_order
derivation_parts j d cached trail h =
    let once = is_each_met_once (length trail) (send_order trail) in
    let ended = option_eq nat_eq (end_step (length trail) trail (length trail - 1) 0) (Some (length trail)) in
    let hold = steps_hold j (effective d) cached [] trail in
    let whole = and_parts (has_order trail) hold h in
    let one = and_parts (nat_le (length trail) most_sends) (is_top (top_step trail) && (once && ended)) whole.0 in
    let two = and_parts (is_top (top_step trail)) (once && ended) one.1 in
    let three = and_parts once ended two.1 in
    record {
      few = leb-true (length trail) most_sends one.0;
      top = top_is (top_step trail) two.0;
      sent = each_once (length trail) (send_order trail) three.0;
      ends = place_same (end_step (length trail) trail (length trail - 1) 0) (Some (length trail)) three.1;
      hold = whole.1;
    }

-- ---- each step by those before it

-- a step holds by the steps before it
pub steps_hold_at : (j : Judge) (limits : Limits) (cached : List EntryValue) (earlier steps : List AskedValue) (n : ℕ)
    (step : AskedValue) → steps_hold j limits cached earlier steps ≡ true
    → slice_get steps n ≡ Some step → step_holds j limits cached (earlier ++ take n steps) step ≡ true
unfolding steps_hold
steps_hold_at j limits cached earlier [] n step h is = cc
steps_hold_at j limits cached earlier (s ∷ steps) zero step h is =
    let same : s ≡ step = cc in
    ap (λ t. step_holds j limits cached t step) (append-nil earlier)
    ∙ ap (step_holds j limits cached earlier) (sym same)
    ∙ (and_parts (step_holds j limits cached earlier s) (steps_hold j limits cached (earlier ++ s ∷ []) steps) h).0
steps_hold_at j limits cached earlier (s ∷ steps) (suc n) step h is =
    let rest = (and_parts (step_holds j limits cached earlier s) (steps_hold j limits cached (earlier ++ s ∷ []) steps) h).1 in
    ap (λ t. step_holds j limits cached t step) (sym (append_assoc earlier (s ∷ []) (take n steps)))
    ∙ steps_hold_at j limits cached (earlier ++ s ∷ []) steps n step rest is

-- the number of a step that isn't too deep
pub record IsWithin (limits : Limits) (trail : List AskedValue) (n : ℕ) : Type 0 where
  pub step : AskedValue
  pub found : slice_get trail n ≡ Some step
  pub within : step.depth ≤ limits.depth

ask_within : (j : Judge) (limits : Limits) (cached : List EntryValue) (trail : List AskedValue) (n : ℕ)
    (step : AskedValue) (ask : AskRef) → step.depth ≤ limits.depth
    → IsAskOf (step_context_of j limits cached (take n trail) step) ask → OfAsk (IsWithin limits trail) ask
ask_within j limits cached trail n step TooDeep asker h = tt
ask_within j limits cached trail n step TooMany asker h = tt
ask_within j limits cached trail n step (Step m) asker h =
    let made = step_made (step_context_of j limits cached (take n trail) step) m h in
    record {
      step = made.step;
      found = subst (λ t. slice_get t m ≡ Some made.step) (take-append-drop n trail)
          (slice_get-stays (take n trail) (drop n trail) m made.step made.found);
      within = made.within asker;
    }

same_within : (limits : Limits) (trail : List AskedValue) (n : ℕ) (step : AskedValue) (here : IsWithin limits trail n)
    → slice_get trail n ≡ Some step
    → step.depth ≤ limits.depth
same_within limits trail n step here is =
    let same : here.step ≡ step = cc (here.found, is) in
    subst (λ s. s.depth ≤ limits.depth) same here.within

hands_on : (j : Judge) (limits : Limits) (cached : List EntryValue) (trail : List AskedValue)
    → steps_hold j limits cached [] trail ≡ true → HandsOn (IsWithin limits trail) trail
hands_on j limits cached trail hold = record {
  on = λ n step here is.
      let g = step_context_of j limits cached (take n trail) step in
      each_more (IsAskOf g) (OfAsk (IsWithin limits trail))
      (λ ask. ask_within j limits cached trail n step ask (same_within limits trail n step here is))
      (asks_of step) (step_asks j limits cached (take n trail) step (steps_hold_at j limits cached [] trail n step hold is));
}

-- the order of the sends begins with the last step, and holds numbers of steps that aren't too deep
pub order_begins : (j : Judge) (d : Limits) (cached : List EntryValue) (trail : List AskedValue)
    (g : Derived j d cached trail)
    → BeginsWith (IsWithin (effective d) trail) (length trail - 1) g.sent.order
order_begins j d cached trail g =
    let top : IsWithin (effective d) trail (length trail - 1) =
    record { step = g.top.step; found = g.top.found; within = omega (arith, g.top.top) } in
    step_begins (IsWithin (effective d) trail) trail (length trail) (length trail - 1) g.sent.order
    (hands_on j (effective d) cached trail g.hold) top g.sent.found

-- ---- how deep

stands_once : (Q : ℕ → Type 0) (k x : ℕ) (xs : List ℕ) (t : Bool) → (k == x) ≡ t → times k (x ∷ xs) ≡ 1 → Q x → (times k xs ≡ 1 → Q k) → Q k
stands_once Q k x xs true is h here later = subst Q (sym (number_same k x is)) here
stands_once Q k x xs false is h here later =
    let rest : times k (x ∷ xs) ≡ 0 + times k xs = times-cons k x xs ∙ ap (λ b. (if b then 1 else 0) + times k xs) is in
    later (omega arith)

of_each : (Q : ℕ → Type 0) (order : List ℕ) → AllByRecursion Q order → (k : ℕ) → times k order ≡ 1 → Q k
of_each Q [] each k h = absurd (omega arith)
of_each Q (x ∷ xs) each k h = stands_once Q k x xs (k == x) refl h each.0 (λ rest. of_each Q xs each.1 k rest)

-- each step of a derivation is at most as deep as asks go
pub derivation_depths : (j : Judge) (d : Limits) (cached : List EntryValue) (trail : List AskedValue)
    → derivation j d cached trail ≡ true → All (λ step. step.depth ≤ depth_limit d.depth) trail
derivation_depths j d cached trail h = λ k other below.
    let g = derivation_parts j d cached trail h in
    let here = of_each (IsWithin (effective d) trail) g.sent.order ((order_begins j d cached trail g).each) k (g.sent.once k below) in
    subst (λ s. s.depth ≤ depth_limit d.depth) (sym (get_or_from_slice_get trail k here.step other here.found)) here.within

-- ---- how many

below_each : (limits : Limits) (trail : List AskedValue) (order : List ℕ) → AllByRecursion (IsWithin limits trail) order
    → AreBelow (length trail) order
below_each limits trail order each =
    each_more (IsWithin limits trail) (λ i. i < length trail) (λ i h. slice_get_within trail i h.step h.found) order each

-- the order of the sends has as many numbers as there are steps
pub derivation_counts : (j : Judge) (d : Limits) (cached : List EntryValue) (trail : List AskedValue) (order : List ℕ)
    → derivation j d cached trail ≡ true → send_order trail ≡ Some order
    → length order ≡ length trail
derivation_counts j d cached trail order h is =
    let g = derivation_parts j d cached trail h in
    let same : order ≡ g.sent.order = cc (is, g.sent.found) in
    ap length same
    ∙ as_many (length trail) g.sent.order (below_each (effective d) trail g.sent.order ((order_begins j d cached trail g).each)) g.sent.once

numbered_as_many : (limits : Limits) (trail : List AskedValue) (order : List ℕ) → AllByRecursion (IsWithin limits trail) order
    → length (numbered trail order) ≡ length order
numbered_as_many limits trail [] each = refl
numbered_as_many limits trail (x ∷ xs) each =
    ap (λ o. length (cons_option o (numbered trail xs))) each.0.found ∙ ap suc (numbered_as_many limits trail xs each.1)

-- as many steps were sent as the trail has
pub derivation_sent : (j : Judge) (d : Limits) (cached : List EntryValue) (trail : List AskedValue)
    → derivation j d cached trail ≡ true → length (in_send_order trail) ≡ length trail
derivation_sent j d cached trail h =
    let g = derivation_parts j d cached trail h in
    ap (λ o. length (steps_at trail o)) g.sent.found
    ∙ numbered_as_many (effective d) trail g.sent.order ((order_begins j d cached trail g).each)
    ∙ derivation_counts j d cached trail g.sent.order h g.sent.found

-- ---- the top step first

-- the first step that was sent is the last of the trail, a judged one at depth 0
pub record TopFirst (trail : List AskedValue) : Type 0 where
  pub top : AskedValue
  pub others : List AskedValue
  pub last : top_step trail ≡ Some top
  pub judged : top.judged ≡ true
  pub depth : top.depth ≡ 0
  pub first : in_send_order trail ≡ top ∷ others

pub derivation_first : (j : Judge) (d : Limits) (cached : List EntryValue) (trail : List AskedValue)
    → derivation j d cached trail ≡ true → TopFirst trail
derivation_first j d cached trail h =
    let g = derivation_parts j d cached trail h in
    let begins = order_begins j d cached trail g in
    record {
      top = g.top.step;
      others = numbered trail begins.rest;
      last = g.top.found;
      judged = g.top.judged;
      depth = g.top.top;
      first = ap (steps_at trail) (g.sent.found ∙ ap Some begins.is) ∙ ap (λ o. cons_option o (numbered trail begins.rest)) g.top.found;
    }
