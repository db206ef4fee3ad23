-- The signatures of a set, tried one after another, are the rows that a trail has for them.
use Rattle.std.proofs.Common.{◌≡◌, ◌<◌, ◌-◌, ℕ, ◌+◌, zero, suc, Bool, true, false, List, [], ◌∷◌, ◌++◌, map, length, drop, Option, None, Some, slice_get, is_some, if◌then◌else◌, add-one, append_assoc, append-nil, refl, sym, ap, ◌∙◌, subst, arith}
use Rattle.std.specs.Option.{option_map, option_map_or, option_and_then}
use Rattle.std.proofs.lemmas.List.{length-map, length-append, map-append}
use Rattle.std.proofs.lemmas.Option.{slice_get_within}
use Rattle.dns_model.specs.declared.trail.AskRef.{AskRef}
use Rattle.dns_model.specs.Records.{Rr, RrSet, Question}
use Rattle.dns_model.specs.RecordViews.{rrsig_of}
use Rattle.dns_model.specs.Views.{RrsigValue}
use Rattle.dns_model.specs.Chains.{Judge}
use Rattle.dns_model.specs.SoundAnswers.{Told, PlacedSet}
use Rattle.dns_rules.specs.Asking.{ask_of}
use Rattle.dns_rules.specs.ChainedSets.{ChainedSet, ChainedVerdict, bare, bare_verdicts, with_chain, chain_by_read, chained_verdict, chained_by}
use Rattle.dns_rules.specs.Derivation.{StepContext, finished_answer, is_ask, verdicts_after, verdicts_asked, verdicts_by, is_empty}
use Rattle.dns_rules.specs.Marks.{Verdict, is_proved, is_skipped, judged_by, key_question, verdict_of}
use Rattle.dns_rules.specs.Marks as marks
use Rattle.dns_rules.specs.MarkParts.{is_skipped_read, signer_question, verdict_by}
use Rattle.dns_rules.proofs.ChainedLemmas.{chained_verdict-bare}
use Rattle.dns_trust.specs.Verdicts.{verdict_value}
use Rattle.dns_trust.specs.declared.verdict.Verdict.{Verdict as Declared}
use Rattle.dns_trust.specs.declared.verdict.Verdict.TheVariants as declared
use Rattle.dns_flow.specs.Phases.{judged_ask, Marked, Trying, NeedValue, SetEnds, Asks, first_signatures, unasked, try_from, after_verdict, after_signature, signature_need, turn, after}
use Rattle.dns_flow.specs.Leads.{chainless, bare_verdict, bare_phase}
use Rattle.dns_flow.proofs.Bare.{trail_bare, verdicts_bare, verdicts_more}
use Rattle.dns_flow.proofs.Ends.{led, last_if, unasked_end, asked, marked, led_if, each_if, last_map}

-- ---- places

-- what is left from a place on begins with this signature
pub record IsNext (all : List Rr) (k : ℕ) (r : Rr) (rest : List Rr) : Type 0 where
  pub at : slice_get all k ≡ Some r
  pub more : drop (k + 1) all ≡ rest

next_at : (all : List Rr) (k : ℕ) (r : Rr) (rest : List Rr) → drop k all ≡ r ∷ rest → (slice_get all k ≡ Some r) × (drop (suc k) all ≡ rest)
next_at [] zero r rest h = cc
next_at [] (suc k) r rest h = cc
next_at (y ∷ all) zero r rest h = (let same : y ≡ r = cc in ap Some same, cc)
next_at (y ∷ all) (suc k) r rest h = next_at all k r rest h

pub is_next : (all : List Rr) (k : ℕ) (r : Rr) (rest : List Rr) → drop k all ≡ r ∷ rest → IsNext all k r rest
is_next all k r rest h =
    let one : k + 1 ≡ suc k = omega arith in
    let p = next_at all k r rest h in
    record { at = p.0; more = ap (λ n. drop n all) one ∙ p.1 }

-- what stands at a place is what is left from there
left_at : (all : List Rr) (k : ℕ) (r : Rr) → slice_get all k ≡ Some r → drop k all ≡ r ∷ drop (suc k) all
left_at [] k r h = cc
left_at (y ∷ all) zero r h = let same : y ≡ r = cc in ap (λ x. x ∷ all) same
left_at (y ∷ all) (suc k) r h = left_at all k r h

none_left : (all : List Rr) (k : ℕ) → slice_get all k ≡ None → drop k all ≡ []
none_left [] zero h = refl
none_left [] (suc k) h = refl
none_left (y ∷ all) zero h = cc
none_left (y ∷ all) (suc k) h = none_left all k h

length_more : (vs : List ChainedVerdict) (v : ChainedVerdict) → length (vs ++ v ∷ []) ≡ length vs + 1
length_more vs v = length-append vs (v ∷ [])

-- a place is one further
pub next_drop : (all : List Rr) (vs : List ChainedVerdict) (v : ChainedVerdict) (r : Rr) (rest : List Rr) → drop (length vs) all ≡ r ∷ rest
    → drop (length (vs ++ v ∷ [])) all ≡ rest
next_drop all vs v r rest h = ap (λ n. drop n all) (length_more vs v) ∙ (is_next all (length vs) r rest h).more

-- ---- the end

-- the end of a set with these verdicts
abbrev pub tried_end : PlacedSet → List Verdict → NeedValue
tried_end placed vs = SetEnds (chainless (judged_by placed vs))

-- and with others behind them
abbrev pub tried_with : PlacedSet → List ChainedVerdict → List Verdict → NeedValue
tried_with placed front vs = tried_end placed (bare_verdicts front ++ vs)

marked_with : (g : StepContext) (told : Told) (asks : List AskRef) (placed : PlacedSet) (front : List ChainedVerdict)
    → led g told asks (bare_phase (Marked (chained_by placed front))) ≡ last_if asks (tried_end placed (bare_verdicts front))
marked_with g told asks placed front = marked g told asks (chained_by placed front)

-- the verdicts behind one more are those behind it
behind : (placed : PlacedSet) (front : List ChainedVerdict) (v : ChainedVerdict) (o : Option (List Verdict))
    → option_map (tried_with placed (front ++ v ∷ [])) o ≡ option_map (tried_with placed front) (option_map (λ vs. v.verdict ∷ vs) o)
behind placed front v None = refl
behind placed front v (Some vs) =
    ap (λ xs. Some (tried_end placed (xs ++ vs))) (verdicts_more front v)
    ∙ ap (λ xs. Some (tried_end placed xs)) (append_assoc (bare_verdicts front) (v.verdict ∷ []) vs)

-- ---- one signature

-- a signature that isn't left out can be read, and asks
pub record IsAsking (set : RrSet) (r : Rr) : Type 0 where
  pub question : Question
  pub asks : ask_of set r ≡ Some question

asking_by : (q : Question) (set : RrSet) (r : Rr) (read : Option RrsigValue) → rrsig_of r ≡ read
    → is_skipped_read q set read ≡ false → IsAsking set r
asking_by q set r None is kept = cc
asking_by q set r (Some sig) is kept = record { question = key_question set.class sig.signer; asks = ap (signer_question set.class) is }

pub is_asking : (q : Question) (set : RrSet) (r : Rr) → is_skipped q set r ≡ false → IsAsking set r
is_asking q set r kept = asking_by q set r (rrsig_of r) refl kept

-- the verdict that the answer of a trail gives
pub trail_verdict : (g : StepContext) (set : RrSet) (r : Rr) (made : AskRef)
    → (chained_verdict g.judge set r (option_map (map chainless) (finished_answer g.earlier made))).verdict
    ≡ verdict_of g.judge set r (finished_answer g.earlier made)
trail_verdict g set r made =
    chained_verdict-bare g.judge set r (option_map (map chainless) (finished_answer g.earlier made))
    ∙ ap (verdict_of g.judge set r) (trail_bare (finished_answer g.earlier made))

-- what needs the next ask
pub next_need : (placed : PlacedSet) (vs : List ChainedVerdict) (r : Rr) (question : Question)
    → slice_get (first_signatures placed.set) (length vs) ≡ Some r
    → ask_of placed.set r ≡ Some question → turn (Trying placed vs) ≡ Asks (judged_ask question)
unfolding turn
next_need placed vs r question at asks =
    ap (λ o. signature_need placed vs (option_and_then (ask_of placed.set) o)) at ∙ ap (signature_need placed vs) asks

-- a proof ends the set, with what was found before it
proved_end : (g : StepContext) (told : Told) (asks : List AskRef) (placed : PlacedSet) (front : List ChainedVerdict) (v : ChainedVerdict)
    → led g told asks (bare_phase (Marked (chained_by placed (front ++ v ∷ []))))
    ≡ option_map (tried_with placed front) (if is_empty asks then Some (v.verdict ∷ []) else None)
proved_end g told asks placed front v =
    marked_with g told asks placed (front ++ v ∷ []) ∙ ap (λ xs. last_if asks (tried_end placed xs)) (verdicts_more front v)
    ∙ last_map asks (tried_with placed front) (v.verdict ∷ [])

after_if : (b : Bool) (v : Verdict) (asks : List AskRef) (o : Option (List Verdict)) (end : List Verdict → NeedValue)
    → (if b then option_map end (if is_empty asks then Some (v ∷ []) else None) else option_map end (option_map (λ vs. v ∷ vs) o))
    ≡ option_map end (if b then (if is_empty asks then Some (v ∷ []) else None) else option_map (λ vs. v ∷ vs) o)
after_if true v asks o end = refl
after_if false v asks o end = refl

ask_if : (b : Bool) (end : List Verdict → NeedValue) (o : Option (List Verdict))
    → (if b then option_map end o else None) ≡ option_map end (if b then o else None)
ask_if true end o = refl
ask_if false end o = refl

-- ---- signatures

-- from the verdict of a signature on
verdict_led : (g : StepContext) (told : Told) (placed : PlacedSet) (asks : List AskRef) (front : List ChainedVerdict)
    (v : ChainedVerdict) (w : Verdict)
    (o : Option (List Verdict)) → v.verdict ≡ w
    → led g told asks (bare_phase (try_from g.query placed (front ++ v ∷ []) (drop (length front + 1) (first_signatures placed.set))))
    ≡ option_map (tried_with placed (front ++ v ∷ [])) o
    → led g told asks (bare_phase (after_verdict g.query placed front v))
    ≡ option_map (tried_with placed front) (verdicts_after w asks (λ xs. o))
verdict_led g told placed asks front v w o is on =
    let next = try_from g.query placed (front ++ v ∷ []) (drop (length front + 1) (first_signatures placed.set)) in
    led_if g told asks (is_proved v.verdict) (Marked (chained_by placed (front ++ v ∷ []))) next
    ∙ ap (λ x. if is_proved v.verdict then x else led g told asks (bare_phase next)) (proved_end g told asks placed front v)
    ∙ ap (λ x. if is_proved v.verdict then option_map (tried_with placed front) (if is_empty asks then Some (v.verdict ∷ []) else None)
    else x)
    (on ∙ behind placed front v o)
    ∙ after_if (is_proved v.verdict) v.verdict asks o (tried_with placed front)
    ∙ ap (λ u. option_map (tried_with placed front) (verdicts_after u asks (λ xs. o))) is

skip_if : (b : Bool) (end : List Verdict → NeedValue) (x y : Option (List Verdict))
    → (if b then option_map end x else option_map end y) ≡ option_map end (if b then x else y)
skip_if true end x y = refl
skip_if false end x y = refl

-- from a signature that asks on
ask_led : (g : StepContext) (told : Told) (placed : PlacedSet) (asks : List AskRef) (front : List ChainedVerdict) (r : Rr) (rs : List Rr)
    → drop (length front) (first_signatures placed.set) ≡ r ∷ rs → IsAsking placed.set r
    → ((left : List AskRef) (before : List ChainedVerdict) → drop (length before) (first_signatures placed.set) ≡ rs
    → led g told left (bare_phase (try_from g.query placed before rs)) ≡ option_map (tried_with placed before)
    (verdicts_by g placed.set rs left))
    → led g told asks (bare_phase (Trying placed front))
    ≡ option_map (tried_with placed front) (verdicts_asked g placed.set r asks (verdicts_by g placed.set rs))
unfolding after
ask_led g told placed [] front r rs left asking go =
    let vs = map bare_verdict front in
    let here = is_next (first_signatures placed.set) (length front) r rs left in
    let at : slice_get (first_signatures placed.set) (length vs) ≡ Some r =
    ap (slice_get (first_signatures placed.set)) (length-map front bare_verdict) ∙ here.at in
    unasked_end g told (Trying placed vs) (judged_ask asking.question) (next_need placed vs r asking.question at asking.asks)
ask_led g told placed (made ∷ asks) front r rs left asking go =
    let vs = map bare_verdict front in
    let all = first_signatures placed.set in
    let count = length-map front bare_verdict in
    let here = is_next all (length front) r rs left in
    let at : slice_get all (length vs) ≡ Some r = ap (slice_get all) count ∙ here.at in
    let answer = option_map (map chainless) (finished_answer g.earlier made) in
    let v = chained_verdict g.judge placed.set r answer in
    let w = verdict_of g.judge placed.set r (finished_answer g.earlier made) in
    let is_one = is_ask g.limits.depth g.earlier (g.depth + 1) asking.question made in
    let more = verdicts_by g placed.set rs asks in
    let left_here : drop (length vs) all ≡ r ∷ rs = ap (λ n. drop n all) count ∙ left in
    let left_more : drop (length (vs ++ v ∷ [])) all ≡ rs = next_drop all vs v r rs left_here in
    let on : led g told asks (bare_phase (try_from g.query placed (vs ++ v ∷ []) (drop (length vs + 1) all)))
    ≡ option_map (tried_with placed (vs ++ v ∷ [])) more =
    ap (λ xs. led g told asks (bare_phase (try_from g.query placed (vs ++ v ∷ []) xs))) (is_next all (length vs) r rs left_here).more
    ∙ go asks (vs ++ v ∷ []) left_more in
    asked g told made asks (Trying placed vs) (judged_ask asking.question) (next_need placed vs r asking.question at asking.asks)
    ∙ ap (λ o. if is_one then led g told asks (bare_phase (after_signature g.judge g.query placed vs answer o)) else None) at
    ∙ ap (λ x. if is_one then x else None) (verdict_led g told placed asks vs v w more (trail_verdict g placed.set r made) on)
    ∙ ap (λ xs. if is_one then option_map (λ ws. tried_end placed (xs ++ ws)) (verdicts_after w asks (λ x. more))
    else None) (verdicts_bare front)
    ∙ ask_if is_one (tried_with placed front) (verdicts_after w asks (λ x. more))
    ∙ ap (λ o. option_map (tried_with placed front) (if option_map_or (λ q. is_ask g.limits.depth g.earlier (g.depth + 1) q made) o false
    then verdicts_after w asks (λ x. more) else None))
    (sym asking.asks)

-- from the signatures that are left on
pub tried_from : (g : StepContext) (told : Told) (placed : PlacedSet) (asks : List AskRef) (front : List ChainedVerdict) (rs : List Rr)
    → drop (length front) (first_signatures placed.set) ≡ rs
    → led g told asks (bare_phase (try_from g.query placed front rs))
    ≡ option_map (tried_with placed front) (verdicts_by g placed.set rs asks)
unfolding try_from verdicts_by
tried_from g told placed asks front [] left =
    marked_with g told asks placed front ∙ ap (λ xs. last_if asks (tried_end placed xs)) (sym (append-nil (bare_verdicts front)))
    ∙ last_map asks (tried_with placed front) []
tried_from g told placed asks front (r ∷ rs) left =
    let skipped = is_skipped g.query placed.set r in
    let on = led g told asks (bare_phase (try_from g.query placed (front ++ unasked ∷ []) rs)) in
    led_if g told asks skipped (try_from g.query placed (front ++ unasked ∷ []) rs) (Trying placed front)
    ∙ each_if skipped on (option_map (tried_with placed front) (option_map (λ vs. marks.Failed ∷ vs) (verdicts_by g placed.set rs asks)))
    (led g told asks (bare_phase (Trying placed front)))
    (option_map (tried_with placed front) (verdicts_asked g placed.set r asks (verdicts_by g placed.set rs)))
    (λ yes. tried_from g told placed asks (front ++ unasked ∷ []) rs (next_drop (first_signatures placed.set) front unasked r rs left)
    ∙ behind placed front unasked (verdicts_by g placed.set rs asks))
    (λ no. ask_led g told placed asks front r rs left (is_asking g.query placed.set r no)
    (λ some before h. tried_from g told placed some before rs h))
    ∙ skip_if skipped (tried_with placed front) (option_map (λ vs. marks.Failed ∷ vs) (verdicts_by g placed.set rs asks))
    (verdicts_asked g placed.set r asks (verdicts_by g placed.set rs))

-- ---- in the code

-- a signature that is left out
skip_at : {V : Type 0} (value : V → ChainedVerdict) (q : Question) (placed : PlacedSet) (items : List V) (v : V) (o : Option Rr)
    → value v ≡ unasked
    → slice_get (first_signatures placed.set) (length items) ≡ o → option_map_or (is_skipped q placed.set) o false ≡ true
    → try_from q placed (map value (items ++ v ∷ [])) (drop (length (items ++ v ∷ [])) (first_signatures placed.set))
    ≡ try_from q placed (map value items) (drop (length items) (first_signatures placed.set))
unfolding try_from
skip_at value q placed items v None is at skips = cc
skip_at value q placed items v (Some r) is at skips =
    let all = first_signatures placed.set in
    let vs = map value items in
    let one : length (items ++ v ∷ []) ≡ suc (length items) = length-append items (v ∷ []) ∙ add-one (length items) in
    ap (λ xs. try_from q placed xs (drop (length (items ++ v ∷ [])) all)) (map-append value items (v ∷ []) ∙ ap (λ x. vs ++ x ∷ []) is)
    ∙ ap (λ n. try_from q placed (vs ++ unasked ∷ []) (drop n all)) one
    ∙ ap (λ b. if b then try_from q placed (vs ++ unasked ∷ []) (drop (suc (length items)) all) else Trying placed vs) (sym skips)
    ∙ ap (try_from q placed vs) (sym (left_at all (length items) r at))

pub skip_on : (q : Question) (placed : PlacedSet) (items more : List Declared) → more ≡ items ++ declared.Failed ∷ []
    → option_map_or (is_skipped q placed.set) (slice_get (first_signatures placed.set) (length items)) false ≡ true
    → try_from q placed (map verdict_value more) (drop (length more) (first_signatures placed.set))
    ≡ try_from q placed (map verdict_value items) (drop (length items) (first_signatures placed.set))
skip_on q placed items more grown skips =
    ap (λ xs. try_from q placed (map verdict_value xs) (drop (length xs) (first_signatures placed.set))) grown
    ∙ skip_at verdict_value q placed items declared.Failed (slice_get (first_signatures placed.set) (length items)) refl refl skips

stop_at : (q : Question) (placed : PlacedSet) (vs : List ChainedVerdict) (n : ℕ) (o : Option Rr)
    → slice_get (first_signatures placed.set) n ≡ o
    → option_map_or (is_skipped q placed.set) o false ≡ false
    → try_from q placed vs (drop n (first_signatures placed.set)) ≡ (if is_some o then Trying placed vs else Marked (chained_by placed vs))
unfolding try_from
stop_at q placed vs n None at stops = ap (try_from q placed vs) (none_left (first_signatures placed.set) n at)
stop_at q placed vs n (Some r) at stops =
    let all = first_signatures placed.set in
    ap (try_from q placed vs) (left_at all n r at)
    ∙ ap (λ b. if b then try_from q placed (vs ++ unasked ∷ []) (drop (suc n) all) else Trying placed vs) stops

-- where no signature is left out, the next one asks
pub stops_trying : (q : Question) (placed : PlacedSet) (items : List Declared)
    → option_map_or (is_skipped q placed.set) (slice_get (first_signatures placed.set) (length items)) false ≡ false
    → is_some (slice_get (first_signatures placed.set) (length items)) ≡ true
    → Trying placed (map verdict_value items) ≡ try_from q placed (map verdict_value items)
    (drop (length items) (first_signatures placed.set))
stops_trying q placed items stops left =
    let at = slice_get (first_signatures placed.set) (length items) in
    let vs = map verdict_value items in
    ap (λ b. if b then Trying placed vs else Marked (chained_by placed vs)) (sym left)
    ∙ sym (stop_at q placed vs (length items) at refl stops)

-- and where none is left, the verdicts decide
pub stops_marked : (q : Question) (placed : PlacedSet) (items : List Declared)
    → option_map_or (is_skipped q placed.set) (slice_get (first_signatures placed.set) (length items)) false ≡ false
    → is_some (slice_get (first_signatures placed.set) (length items)) ≡ false
    → Marked (chained_by placed (map verdict_value items)) ≡ try_from q placed (map verdict_value items)
    (drop (length items) (first_signatures placed.set))
stops_marked q placed items stops left =
    let at = slice_get (first_signatures placed.set) (length items) in
    let vs = map verdict_value items in
    ap (λ b. if b then Trying placed vs else Marked (chained_by placed vs)) (sym left)
    ∙ sym (stop_at q placed vs (length items) at refl stops)

fewer_at : (all : List Rr) (n : ℕ) (test : Rr → Bool) (o : Option Rr) → slice_get all n ≡ o → option_map_or test o false ≡ true
    → length all - (n + 1) < length all - n
fewer_at all n test None at passes = cc
fewer_at all n test (Some r) at passes =
    let within = slice_get_within all n r at in
    omega arith

-- one is left less
pub fewer : (all : List Rr) (items more : List Declared) (v : Declared) (test : Rr → Bool) → more ≡ items ++ v ∷ []
    → option_map_or test (slice_get all (length items)) false ≡ true → length all - length more < length all - length items
fewer all items more v test grown passes =
    let one : length more ≡ length items + 1 = ap length grown ∙ length-append items (v ∷ []) in
    let less = fewer_at all (length items) test (slice_get all (length items)) refl passes in
    subst (λ n. length all - n < length all - length items) (sym one) less

-- a signature that can't be read
pub unread_verdict : (j : Judge) (set : RrSet) (r : Rr) (answer : Option (List ChainedSet)) → rrsig_of r ≡ None
    → chained_verdict j set r answer ≡ unasked
unfolding chained_verdict verdict_of
unread_verdict j set r None unread = refl
unread_verdict j set r (Some cs) unread = ap (λ o. with_chain (verdict_by j set r (bare cs) o) (chain_by_read j set r cs o)) unread
