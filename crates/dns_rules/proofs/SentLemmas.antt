-- The steps that a part of a walk sent, in order; further steps change none of them.
use Rattle.std.proofs.Common.{◌≡◌, ℕ, zero, suc, ◌+◌, ◌≤◌, ◌<◌, Bool, true, false, ◌==◌, List, [], ◌∷◌, ◌++◌, length, Some, slice_get, nat_lt, if◌then◌else◌, refl, ap, ◌∙◌, arith, count_by}
use Rattle.std.specs.List.{filter_map, cons_option, AllByRecursion}
use Rattle.std.proofs.lemmas.Bool.Decides.{nat_tests}
use Rattle.std.proofs.lemmas.List.Elements.{filter_map-append}
use Rattle.std.proofs.lemmas.List.Sums.{sum_by-cons}
use Rattle.dns_model.specs.declared.trail.AskRef.{AskRef}
use Rattle.dns_model.specs.Chains.{Judge}
use Rattle.dns_model.specs.Trails.{AskedValue}
use Rattle.dns_model.proofs.SetLemmas.{number_refl}
use Rattle.dns_model.proofs.Lists.{slice_get_appended}
use Rattle.dns_rules.specs.Asking.{Limits, most_sends}
use Rattle.dns_rules.specs.CacheEntries.{EntryValue}
use Rattle.dns_rules.specs.Derivation.{step_holds, asks_of}
use Rattle.dns_rules.specs.DerivationParts.{steps_at}
use Rattle.dns_rules.specs.Parts.{once_between, TrailPart}
use Rattle.dns_rules.proofs.PartLemmas.{part_none, part_deep, part_many, part_then, part_step, order_of_none, order_of_deep, order_of_many, order_of_then, order_of_step}

-- numbers below a bound
abbrev pub AreBelow : ℕ → List ℕ → Type 0
AreBelow b order = AllByRecursion (λ i. i < b) order

-- how often a number stands in a list
abbrev pub times : ℕ → List ℕ → ℕ
times i order = count_by (λ x. i == x) order

pub times-cons : (i x : ℕ) (xs : List ℕ) → times i (x ∷ xs) ≡ (if i == x then 1 else 0) + times i xs
times-cons i x xs = sum_by-cons (λ y. if i == y then 1 else 0) x xs

-- ---- numbers that stand in no list from a bound on

stands_itself : (x : ℕ) (xs : List ℕ) → times x (x ∷ xs) ≡ 1 + times x xs
stands_itself x xs = times-cons x x xs ∙ ap (λ b. (if b then 1 else 0) + times x xs) (number_refl x)

below_first : (b x : ℕ) (xs : List ℕ) → (b ≤ x → times x (x ∷ xs) ≡ 0) → x < b
below_first b x xs none = by_cases (nat_lt x b) refl
  where
    by_cases : (t : Bool) → nat_lt x b ≡ t → x < b
    by_cases true is = grind (arith, nat_tests)
    by_cases false is =
        let past : b ≤ x = grind (arith, nat_tests) in
        let zero_times = none past in
        let itself = stands_itself x xs in
        absurd (omega arith)

none_later : (i x : ℕ) (xs : List ℕ) → times i (x ∷ xs) ≡ 0 → times i xs ≡ 0
none_later i x xs none = let split = times-cons i x xs in omega arith

pub are_below : (b : ℕ) (order : List ℕ) → ((i : ℕ) → b ≤ i → times i order ≡ 0) → AreBelow b order
are_below b [] none = tt
are_below b (x ∷ xs) none = (below_first b x xs (none x), are_below b xs (λ i past. none_later i x xs (none i past)))

past_between : (a b i : ℕ) → b ≤ i → once_between a b i ≡ 0
past_between a b i past = grind (arith, nat_tests)

-- the numbers of a part are those of its steps
pub part_below : (j : Judge) (limits : Limits) (cached : List EntryValue) (before after : List AskedValue)
    (asks : List AskRef) (n m : ℕ) (p : TrailPart j limits cached before after asks n m)
    → AreBelow (length after) p.order
part_below j limits cached before after asks n m p =
    are_below (length after) p.order (λ i past. p.once i ∙ past_between (length before) (length after) i past)

-- ---- the steps with these numbers

slice_get-front : {X : Type 0} (xs ys : List X) (n : ℕ) → n < length xs → slice_get (xs ++ ys) n ≡ slice_get xs n
slice_get-front [] ys n within = absurd (omega arith)
slice_get-front (x ∷ xs) ys zero within = refl
slice_get-front (x ∷ xs) ys (suc n) within = slice_get-front xs ys n (omega arith)

-- the steps with these numbers
abbrev pub numbered : List AskedValue → List ℕ → List AskedValue
numbered trail order = filter_map (slice_get trail) order

-- further steps change none of them
pub numbered_stay : (trail later : List AskedValue) (order : List ℕ) → AreBelow (length trail) order
    → numbered (trail ++ later) order ≡ numbered trail order
numbered_stay trail later [] below = refl
numbered_stay trail later (x ∷ xs) below =
    ap (λ o. cons_option o (numbered (trail ++ later) xs)) (slice_get-front trail later x below.0)
    ∙ ap (cons_option (slice_get trail x)) (numbered_stay trail later xs below.1)

-- the steps that a part sent, in order
abbrev pub part_sent : {j : Judge} {limits : Limits} {cached : List EntryValue} {before after : List AskedValue}
    {asks : List AskRef} {n m : ℕ}
    → TrailPart j limits cached before after asks n m → List AskedValue
part_sent {after = after} p = steps_at after (Some p.order)

pub sent_stays : (j : Judge) (limits : Limits) (cached : List EntryValue) (before after : List AskedValue)
    (asks : List AskRef) (n m : ℕ) (p : TrailPart j limits cached before after asks n m)
    (later : List AskedValue) → steps_at (after ++ later) (Some p.order) ≡ steps_at after (Some p.order)
sent_stays j limits cached before after asks n m p later =
    numbered_stay after later p.order (part_below j limits cached before after asks n m p)

pub sent_of_none : (j : Judge) (limits : Limits) (cached : List EntryValue) (b : List AskedValue) (n : ℕ)
    → part_sent (part_none j limits cached b n) ≡ []
sent_of_none j limits cached b n = ap (numbered b) (order_of_none j limits cached b n)

pub sent_of_deep : (j : Judge) (limits : Limits) (cached : List EntryValue) (b : List AskedValue) (n : ℕ)
    → part_sent (part_deep j limits cached b n) ≡ []
sent_of_deep j limits cached b n = ap (numbered b) (order_of_deep j limits cached b n)

pub sent_of_many : (j : Judge) (limits : Limits) (cached : List EntryValue) (b : List AskedValue) (n : ℕ)
    (many : most_sends ≤ n) → part_sent (part_many j limits cached b n many) ≡ []
sent_of_many j limits cached b n many = ap (numbered b) (order_of_many j limits cached b n many)

pub sent_of_then : (j : Judge) (limits : Limits) (cached : List EntryValue) (a b c : List AskedValue)
    (xs ys : List AskRef) (n k m : ℕ)
    (first : TrailPart j limits cached a b xs n k) (second : TrailPart j limits cached b c ys k m)
    → part_sent (part_then j limits cached a b c xs ys n k m first second) ≡ part_sent first ++ part_sent second
sent_of_then j limits cached a b c xs ys n k m first second =
    ap (numbered c) (order_of_then j limits cached a b c xs ys n k m first second)
    ∙ filter_map-append (slice_get c) first.order second.order
    ∙ ap (λ t. numbered t first.order ++ numbered c second.order) second.grown
    ∙ ap (λ t. t ++ numbered c second.order) (sent_stays j limits cached a b xs n k first second.more)

pub sent_of_step : (j : Judge) (limits : Limits) (cached : List EntryValue) (a b : List AskedValue)
    (step : AskedValue) (n m : ℕ) (p : TrailPart j limits cached a b (asks_of step) (n + 1) m)
    (few : n < most_sends) (holds : step_holds j limits cached b step ≡ true)
    → part_sent (part_step j limits cached a b step n m p few holds) ≡ step ∷ part_sent p
sent_of_step j limits cached a b step n m p few holds =
    ap (numbered (b ++ step ∷ [])) (order_of_step j limits cached a b step n m p few holds)
    ∙ ap (λ o. cons_option o (numbered (b ++ step ∷ []) p.order)) (slice_get_appended b step [])
    ∙ ap (λ t. step ∷ t) (sent_stays j limits cached a b (asks_of step) (n + 1) m p (step ∷ []))
