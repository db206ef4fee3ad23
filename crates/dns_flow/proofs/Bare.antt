-- The rules look at no chain: without chains they lead to the same phases, without chains.
use Rattle.std.proofs.Common.{◌≡◌, ℕ, ◌+◌, Bool, true, false, List, [], ◌∷◌, ◌++◌, map, length, drop, Option, None, Some, slice_get, if◌then◌else◌, refl, sym, ap, ◌∙◌}
use Rattle.std.specs.Option.{option_map, option_and_then}
use Rattle.std.proofs.lemmas.List.{length-map, map-append}
use Rattle.dns_model.specs.Records.{Rr, Question}
use Rattle.dns_model.specs.Chains.{Judge}
use Rattle.dns_model.specs.SoundAnswers.{Told, PlacedSet}
use Rattle.dns_rules.specs.Asking.{ask_of}
use Rattle.dns_rules.specs.ChainedSets.{ChainedSet, ChainedVerdict, bare, bare_verdicts, chained_verdict, chained_by}
use Rattle.dns_rules.specs.Delegations.{zone_verdict}
use Rattle.dns_rules.specs.KeySets.{keys_judged}
use Rattle.dns_rules.specs.MarkedSets.{MarkedSet}
use Rattle.dns_rules.specs.Marks.{Verdict, is_proved, is_skipped, judged_by, verdict_of}
use Rattle.dns_rules.specs.Unsigned.{unsigned_mark}
use Rattle.dns_rules.proofs.ChainedLemmas.{chained_verdict-bare}
use Rattle.dns_trust.specs.Beside.{outcome_beside, chained_beside}
use Rattle.dns_flow.specs.Phases.{GotValue, Answer, Probe, answer_in, probe_in, PhaseValue, Marked, NeedsDs, Trying, AtName, AtZone, Concluded, SetEnds, found, after_probe, first_signatures, unasked, try_from, after_verdict, after_signature, signature_need, turn, after}
use Rattle.dns_flow.specs.Leads.{chainless, bare_set, bare_verdict, bare_phase, bare_need, bare_got}

-- ---- what was found before

bare_twice : (cs : List ChainedSet) → bare (map bare_set cs) ≡ bare cs
bare_twice [] = refl
bare_twice (c ∷ cs) = ap (λ ms. c.judged ∷ ms) (bare_twice cs)

answer_twice : (answer : Option (List ChainedSet)) → option_map bare (option_map (map bare_set) answer) ≡ option_map bare answer
answer_twice None = refl
answer_twice (Some cs) = ap Some (bare_twice cs)

bare_chainless : (ms : List MarkedSet) → bare (map chainless ms) ≡ ms
bare_chainless [] = refl
bare_chainless (m ∷ ms) = ap (λ xs. m ∷ xs) (bare_chainless ms)

-- the answer that a trail has
pub trail_bare : (answer : Option (List MarkedSet)) → option_map bare (option_map (map chainless) answer) ≡ answer
trail_bare None = refl
trail_bare (Some ms) = ap Some (bare_chainless ms)

pub answer_bare : (got : GotValue) → option_map bare (answer_in (bare_got got)) ≡ option_map bare (answer_in got)
answer_bare (Answer answer) = answer_twice answer
answer_bare (Probe probe) = refl

pub probe_bare : (got : GotValue) → probe_in (bare_got got) ≡ probe_in got
probe_bare (Answer answer) = refl
probe_bare (Probe probe) = refl

-- ---- verdicts

pub verdicts_bare : (vs : List ChainedVerdict) → bare_verdicts (map bare_verdict vs) ≡ bare_verdicts vs
verdicts_bare [] = refl
verdicts_bare (v ∷ vs) = ap (λ xs. v.verdict ∷ xs) (verdicts_bare vs)

only : Verdict → ChainedVerdict
only v = record { verdict = v; chain = [] }

as_only : (vs : List ChainedVerdict) → map bare_verdict vs ≡ map only (bare_verdicts vs)
unfolding only
as_only [] = refl
as_only (v ∷ vs) = ap (λ xs. bare_verdict v ∷ xs) (as_only vs)

same_bare : (vs ws : List ChainedVerdict) → bare_verdicts vs ≡ bare_verdicts ws → map bare_verdict vs ≡ map bare_verdict ws
same_bare vs ws same = as_only vs ∙ ap (map only) same ∙ sym (as_only ws)

same_length : (vs ws : List ChainedVerdict) → bare_verdicts vs ≡ bare_verdicts ws → length vs ≡ length ws
same_length vs ws same = sym (length-map vs (λ v. v.verdict)) ∙ ap length same ∙ length-map ws (λ v. v.verdict)

pub verdicts_more : (vs : List ChainedVerdict) (v : ChainedVerdict) → bare_verdicts (vs ++ v ∷ []) ≡ bare_verdicts vs ++ v.verdict ∷ []
verdicts_more vs v = map-append (λ x. x.verdict) vs (v ∷ [])

same_more : (vs ws : List ChainedVerdict) (v w : ChainedVerdict) → bare_verdicts vs ≡ bare_verdicts ws → v.verdict ≡ w.verdict
    → bare_verdicts (vs ++ v ∷ []) ≡ bare_verdicts (ws ++ w ∷ [])
same_more vs ws v w same one =
    verdicts_more vs v ∙ ap (λ xs. xs ++ v.verdict ∷ []) same ∙ ap (λ x. bare_verdicts ws ++ x ∷ []) one ∙ sym (verdicts_more ws w)

-- ---- one step

both_if : (b : Bool) (x x' y y' : PhaseValue) → bare_phase x ≡ bare_phase x' → bare_phase y ≡ bare_phase y'
    → bare_phase (if b then x else y) ≡ bare_phase (if b then x' else y')
both_if true x x' y y' first second = first
both_if false x x' y y' first second = second

marked_bare : (placed : PlacedSet) (vs ws : List ChainedVerdict) → bare_verdicts vs ≡ bare_verdicts ws
    → bare_phase (Marked (chained_by placed vs)) ≡ bare_phase (Marked (chained_by placed ws))
marked_bare placed vs ws same = ap (λ xs. Marked (chainless (judged_by placed xs))) same

try_bare : (q : Question) (placed : PlacedSet) (vs ws : List ChainedVerdict) (rs : List Rr) → bare_verdicts vs ≡ bare_verdicts ws
    → bare_phase (try_from q placed vs rs) ≡ bare_phase (try_from q placed ws rs)
unfolding try_from
try_bare q placed vs ws [] same = marked_bare placed vs ws same
try_bare q placed vs ws (r ∷ rs) same =
    both_if (is_skipped q placed.set r) (try_from q placed (vs ++ unasked ∷ []) rs) (try_from q placed (ws ++ unasked ∷ []) rs)
    (Trying placed vs) (Trying placed ws)
    (try_bare q placed (vs ++ unasked ∷ []) (ws ++ unasked ∷ []) rs (same_more vs ws unasked unasked same refl))
    (ap (Trying placed) (same_bare vs ws same))

verdict_bare : (q : Question) (placed : PlacedSet) (vs ws : List ChainedVerdict) (v w : ChainedVerdict)
    → bare_verdicts vs ≡ bare_verdicts ws
    → v.verdict ≡ w.verdict → bare_phase (after_verdict q placed vs v) ≡ bare_phase (after_verdict q placed ws w)
verdict_bare q placed vs ws v w same one =
    let more = same_more vs ws v w same one in
    let left = λ (n : ℕ). drop (n + 1) (first_signatures placed.set) in
    let go = λ (xs : List ChainedVerdict). try_from q placed xs in
    ap (λ b. bare_phase (if b then Marked (chained_by placed (vs ++ v ∷ [])) else go (vs ++ v ∷ []) (left (length vs)))) (ap is_proved one)
    ∙ ap (λ n. bare_phase (if is_proved w.verdict then Marked (chained_by placed (vs ++ v ∷ [])) else go (vs ++ v ∷ []) (left n)))
    (same_length vs ws same)
    ∙ both_if (is_proved w.verdict) (Marked (chained_by placed (vs ++ v ∷ []))) (Marked (chained_by placed (ws ++ w ∷ [])))
    (go (vs ++ v ∷ []) (left (length ws))) (go (ws ++ w ∷ []) (left (length ws)))
    (marked_bare placed (vs ++ v ∷ []) (ws ++ w ∷ []) more) (try_bare q placed (vs ++ v ∷ []) (ws ++ w ∷ []) (left (length ws)) more)

signature_bare : (j : Judge) (q : Question) (placed : PlacedSet) (vs ws : List ChainedVerdict) (a b : Option (List ChainedSet))
    (o : Option Rr)
    → bare_verdicts vs ≡ bare_verdicts ws → option_map bare a ≡ option_map bare b
    → bare_phase (after_signature j q placed vs a o) ≡ bare_phase (after_signature j q placed ws b o)
signature_bare j q placed vs ws a b None same answers = marked_bare placed vs ws same
signature_bare j q placed vs ws a b (Some r) same answers =
    verdict_bare q placed vs ws (chained_verdict j placed.set r a) (chained_verdict j placed.set r b) same
    (chained_verdict-bare j placed.set r a ∙ ap (verdict_of j placed.set r) answers ∙ sym (chained_verdict-bare j placed.set r b))

ds_bare : (j : Judge) (placed : PlacedSet) (a b : Option (List ChainedSet)) → option_map bare a ≡ option_map bare b
    → bare_phase (Marked (chained_beside j placed a)) ≡ bare_phase (Marked (chained_beside j placed b))
unfolding chained_beside
ds_bare j placed a b same =
    let by = λ (o : Option (List MarkedSet)).
    keys_judged placed (outcome_beside j placed.set (Some (zone_verdict j.answers placed.set.class placed.set.owner o))) in
    ap (λ o. Marked (chainless (by o))) same

-- ---- the rules

-- where an ask leads
pub after_bare : (j : Judge) (q : Question) (told : Told) (phase : PhaseValue) (got : GotValue)
    → bare_phase (after j q told (bare_phase phase) (bare_got got)) ≡ bare_phase (after j q told phase got)
unfolding after
after_bare j q told (Marked c) got = refl
after_bare j q told (NeedsDs placed) got = ds_bare j placed (answer_in (bare_got got)) (answer_in got) (answer_bare got)
after_bare j q told (Trying placed vs) got =
    let at = λ (n : ℕ). slice_get (first_signatures placed.set) n in
    ap (λ n. bare_phase (after_signature j q placed (map bare_verdict vs) (answer_in (bare_got got)) (at n))) (length-map vs bare_verdict)
    ∙ signature_bare j q placed (map bare_verdict vs) vs (answer_in (bare_got got)) (answer_in got) (at (length vs))
    (verdicts_bare vs) (answer_bare got)
after_bare j q told (AtName seeker class name) got = ap (λ seen. bare_phase (after_probe q told seeker class name seen)) (probe_bare got)
after_bare j q told (AtZone seeker class zone) got =
    ap (λ o. bare_phase (found q told seeker (unsigned_mark (zone_verdict j.answers class zone o)).mark)) (answer_bare got)
after_bare j q told (Concluded o) got = refl

need_bare : (placed : PlacedSet) (vs ws : List ChainedVerdict) (o : Option Question) → bare_verdicts vs ≡ bare_verdicts ws
    → bare_need (signature_need placed vs o) ≡ bare_need (signature_need placed ws o)
need_bare placed vs ws None same = ap (λ xs. SetEnds (chainless (judged_by placed xs))) same
need_bare placed vs ws (Some q) same = refl

-- what a phase needs
pub turn_bare : (phase : PhaseValue) → bare_need (turn (bare_phase phase)) ≡ bare_need (turn phase)
unfolding turn
turn_bare (Marked c) = refl
turn_bare (NeedsDs placed) = refl
turn_bare (Trying placed vs) =
    let asks = λ (n : ℕ). option_and_then (ask_of placed.set) (slice_get (first_signatures placed.set) n) in
    ap (λ n. bare_need (signature_need placed (map bare_verdict vs) (asks n))) (length-map vs bare_verdict)
    ∙ need_bare placed (map bare_verdict vs) vs (asks (length vs)) (verdicts_bare vs)
turn_bare (AtName seeker class name) = refl
turn_bare (AtZone seeker class zone) = refl
turn_bare (Concluded o) = refl
