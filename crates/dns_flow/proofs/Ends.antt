-- The end to which asks lead from a phase: one step of it.
use Rattle.std.proofs.Common.{◌≡◌, Bool, true, false, ◌&&◌, List, [], ◌∷◌, Option, None, Some, if◌then◌else◌, refl, ap, ◌∙◌}
use Rattle.std.specs.Option.{option_map, option_and_then}
use Rattle.dns_model.specs.declared.proof.Proof.{Proof}
use Rattle.dns_model.specs.declared.trail.AskRef.{AskRef}
use Rattle.dns_model.specs.Records.{Question}
use Rattle.dns_model.specs.SoundAnswers.{Told}
use Rattle.dns_rules.specs.ChainedSets.{ChainedSet}
use Rattle.dns_rules.specs.Derivation.{StepContext, is_empty}
use Rattle.dns_rules.specs.Outcome.{Outcome}
use Rattle.dns_flow.specs.declared.asks.Ask.{Ask}
use Rattle.dns_flow.specs.declared.phases.Seeker.{Seeker}
use Rattle.dns_flow.specs.declared.phases.Seeker.TheVariants.{Set, Ending}
use Rattle.dns_flow.specs.Phases.{PhaseValue, Marked, Concluded, NeedValue, SetEnds, StepEnds, Asks, unsigned_with, outcome_by_mark, found, turn, after}
use Rattle.dns_flow.specs.Leads.{bare_set, bare_phase, is_made, got_of, led_on, leads, end_of}

-- the end to which asks lead
abbrev pub led : StepContext → Told → List AskRef → PhaseValue → Option NeedValue
led g told asks p = option_and_then (λ x. end_of (turn x)) (leads g told asks p)

-- an end, where no ask is left
abbrev pub last_if : List AskRef → NeedValue → Option NeedValue
last_if asks n = if is_empty asks then Some n else None

no_more : (g : StepContext) (told : Told) (p : PhaseValue) (made : AskRef) (n : NeedValue) (rest : PhaseValue → Option PhaseValue)
    → end_of n ≡ Some n
    → led_on g told p made n rest ≡ None
no_more g told p made (SetEnds c) rest h = refl
no_more g told p made (StepEnds o) rest h = refl
no_more g told p made (Asks ask) rest h = cc

-- a phase that ends
pub ended : (g : StepContext) (told : Told) (asks : List AskRef) (p : PhaseValue) (n : NeedValue) → turn p ≡ n
    → end_of n ≡ Some n → led g told asks p ≡ last_if asks n
unfolding leads
ended g told [] p n is end = ap end_of is ∙ end
ended g told (made ∷ asks) p n is end =
    ap (λ m. option_and_then (λ x. end_of (turn x)) (led_on g told p made m (leads g told asks))) is
    ∙ ap (option_and_then (λ x. end_of (turn x))) (no_more g told p made n (leads g told asks) end)

-- a phase that asks, without an ask
pub unasked_end : (g : StepContext) (told : Told) (p : PhaseValue) (ask : Ask) → turn p ≡ Asks ask → led g told [] p ≡ None
unfolding leads
unasked_end g told p ask is = ap end_of is

and_then_if : (b : Bool) (o : Option PhaseValue) → option_and_then (λ x. end_of (turn x)) (if b then o else None)
    ≡ (if b then option_and_then (λ x. end_of (turn x)) o else None)
and_then_if true o = refl
and_then_if false o = refl

-- and with one
pub asked : (g : StepContext) (told : Told) (made : AskRef) (asks : List AskRef) (p : PhaseValue) (ask : Ask) → turn p ≡ Asks ask
    → led g told (made ∷ asks) p
    ≡ (if is_made g ask made then led g told asks (bare_phase (after g.judge g.query told p (got_of g.earlier ask made))) else None)
unfolding leads
asked g told made asks p ask is =
    ap (λ m. option_and_then (λ x. end_of (turn x)) (led_on g told p made m (leads g told asks))) is
    ∙ and_then_if (is_made g ask made) (leads g told asks (bare_phase (after g.judge g.query told p (got_of g.earlier ask made))))

-- ---- phases that end

pub marked : (g : StepContext) (told : Told) (asks : List AskRef) (c : ChainedSet)
    → led g told asks (bare_phase (Marked c)) ≡ last_if asks (SetEnds (bare_set c))
unfolding turn
marked g told asks c = ended g told asks (bare_phase (Marked c)) (SetEnds (bare_set c)) refl refl

pub concluded : (g : StepContext) (told : Told) (asks : List AskRef) (o : Outcome)
    → led g told asks (bare_phase (Concluded o)) ≡ last_if asks (StepEnds o)
unfolding turn
concluded g told asks o = ended g told asks (Concluded o) (StepEnds o) refl refl

-- the end of who searched a zone that leaves a mark
abbrev pub found_end : Question → Told → Seeker → Proof → NeedValue
found_end q told (Set placed) mark = SetEnds (unsigned_with placed mark)
found_end q told Ending mark = StepEnds (outcome_by_mark q told mark)

pub found_ends : (g : StepContext) (told : Told) (asks : List AskRef) (q : Question) (seeker : Seeker) (mark : Proof)
    → led g told asks (bare_phase (found q told seeker mark)) ≡ last_if asks (found_end q told seeker mark)
found_ends g told asks q (Set placed) mark = marked g told asks (unsigned_with placed mark)
found_ends g told asks q Ending mark = concluded g told asks (outcome_by_mark q told mark)

-- ---- tests

pub led_if : (g : StepContext) (told : Told) (asks : List AskRef) (b : Bool) (x y : PhaseValue)
    → led g told asks (bare_phase (if b then x else y)) ≡ (if b then led g told asks (bare_phase x) else led g told asks (bare_phase y))
led_if g told asks true x y = refl
led_if g told asks false x y = refl

pub each_if : {X : Type 0} (b : Bool) (x x' y y' : X) → (b ≡ true → x ≡ x') → (b ≡ false → y ≡ y')
    → (if b then x else y) ≡ (if b then x' else y')
each_if true x x' y y' first second = first refl
each_if false x x' y y' first second = second refl

pub last_map : {X : Type 0} (asks : List AskRef) (end : X → NeedValue) (x : X)
    → last_if asks (end x) ≡ option_map end (if is_empty asks then Some x else None)
last_map [] end x = refl
last_map (made ∷ asks) end x = refl

pub last_made : {X : Type 0} (b : Bool) (asks : List AskRef) (end : X → NeedValue) (x : X)
    → (if b then last_if asks (end x) else None) ≡ option_map end (if is_empty asks && b then Some x else None)
last_made true [] end x = refl
last_made true (made ∷ asks) end x = refl
last_made false [] end x = refl
last_made false (made ∷ asks) end x = refl

pub map_if : {X : Type 0} (b : Bool) (end : X → NeedValue) (o : Option X)
    → (if b then option_map end o else None) ≡ option_map end (if b then o else None)
map_if true end o = refl
map_if false end o = refl
