-- Why the sets of a step aren't Secure: the cause beside each is the one to which its asks have led it; none stands
-- beside a set that was served.
use Rattle.std.proofs.Common.{ℕ, ◌≡◌, Bool, true, false, ◌&&◌, List, [], ◌∷◌, ◌++◌, Option, None, Some, if◌then◌else◌, refl}
use Rattle.std.specs.Prelude.{nat_eq}
use Rattle.std.specs.Option.{option_eq}
use Rattle.dns_model.specs.declared.trail.AskRef.{AskRef}
use Rattle.dns_model.specs.declared.trail.MarkOrigin.TheVariants.{Repeat, Cache}
use Rattle.dns_model.specs.SoundAnswers.{Told, PlacedSet}
use Rattle.dns_model.specs.Trails.{AskedValue, JudgedSetValue}
use Rattle.dns_rules.specs.CacheEntries.{EntryValue, mark_of, sig_of}
use Rattle.dns_rules.specs.CacheKeys.{key_eq}
use Rattle.dns_rules.specs.Derivation.{StepContext, proof_eq}
use Rattle.dns_rules.specs.ProofErrors.{ProofErrorKindValue}
use Rattle.dns_rules.specs.Serving.{has_place}
use Rattle.dns_rules.proofs.StayLemmas.{later_step_context}
use Rattle.dns_flow.specs.CauseRows.{is_by_table}
use Rattle.dns_flow.specs.Phases.{PhaseValue, start_set}
use Rattle.dns_flow.proofs.CauseLed.{CauseLed, cause_stays}
use Rattle.dns_flow.proofs.Led.{Led, led_stays}
use Rattle.dns_validation.specs.Machine.{MadeValue, origin_by, origin_of}

-- asks have led a set to its end, and to this cause
pub record IsCaused (g : StepContext) (told : Told) (placed : PlacedSet) (asks : List AskRef)
    (cause : ProofErrorKindValue) : Type 0 where
  pub phase : PhaseValue
  pub led : Led g told (start_set g.judge g.query told placed) asks phase
  pub caused : CauseLed g told placed asks cause

-- a set that the rules judged has a cause, and the signature of which it names the place; no other has a cause
abbrev pub HasCause : StepContext → Told → PlacedSet → JudgedSetValue → Option ProofErrorKindValue → Type 0
HasCause g told placed entry None = is_by_table entry.origin ≡ false
HasCause g told placed entry (Some cause) =
    (is_by_table entry.origin ≡ true)
    × ((has_place placed.set entry.sig ≡ true) × IsCaused g told placed entry.asked cause)

-- sets with their entries and their causes
abbrev pub AreCaused : StepContext → Told → List PlacedSet → List JudgedSetValue → List (Option ProofErrorKindValue)
    → Type 0
AreCaused g told [] [] [] = Unit {0}
AreCaused g told [] [] (c ∷ cs) = ⊥
AreCaused g told [] (e ∷ es) cs = ⊥
AreCaused g told (p ∷ ps) [] cs = ⊥
AreCaused g told (p ∷ ps) (e ∷ es) [] = ⊥
AreCaused g told (p ∷ ps) (e ∷ es) (c ∷ cs) = HasCause g told p e c × AreCaused g told ps es cs

-- ---- further steps

led_later : (g : StepContext) (more : List AskedValue) (told : Told) (p : PlacedSet) (asks : List AskRef)
    (cause : ProofErrorKindValue)
    → IsCaused g told p asks cause → IsCaused (later_step_context g more) told p asks cause
led_later g more told p asks cause one = record {
  phase = one.phase;
  led = led_stays g more told (start_set g.judge g.query told p) asks one.phase one.led;
  caused = cause_stays g more told p asks one.phase cause one.led one.caused;
}

cause_later : (g : StepContext) (more : List AskedValue) (told : Told) (p : PlacedSet) (e : JudgedSetValue)
    (c : Option ProofErrorKindValue)
    → HasCause g told p e c → HasCause (later_step_context g more) told p e c
cause_later g more told p e None h = h
cause_later g more told p e (Some cause) h = (h.0, (h.1.0, led_later g more told p e.asked cause h.1.1))

pub caused_later : (g : StepContext) (more : List AskedValue) (told : Told) (ps : List PlacedSet)
    (es : List JudgedSetValue)
    (cs : List (Option ProofErrorKindValue)) → AreCaused g told ps es cs
    → AreCaused (later_step_context g more) told ps es cs
caused_later g more told [] [] [] h = h
caused_later g more told [] [] (c ∷ cs) h = absurd h
caused_later g more told [] (e ∷ es) cs h = absurd h
caused_later g more told (p ∷ ps) [] cs h = absurd h
caused_later g more told (p ∷ ps) (e ∷ es) [] h = absurd h
caused_later g more told (p ∷ ps) (e ∷ es) (c ∷ cs) h =
    (cause_later g more told p e c h.0, caused_later g more told ps es cs h.1)

-- ---- a set more

pub caused_more : (g : StepContext) (told : Told) (ps : List PlacedSet) (es : List JudgedSetValue)
    (cs : List (Option ProofErrorKindValue))
    (p : PlacedSet) (e : JudgedSetValue) (c : Option ProofErrorKindValue) → AreCaused g told ps es cs
    → HasCause g told p e c
    → AreCaused g told (ps ++ p ∷ []) (es ++ e ∷ []) (cs ++ c ∷ [])
caused_more g told [] [] [] p e c h one = (one, tt)
caused_more g told [] [] (d ∷ cs) p e c h one = absurd h
caused_more g told [] (f ∷ es) cs p e c h one = absurd h
caused_more g told (q ∷ ps) [] cs p e c h one = absurd h
caused_more g told (q ∷ ps) (f ∷ es) [] p e c h one = absurd h
caused_more g told (q ∷ ps) (f ∷ es) (d ∷ cs) p e c h one = (h.0, caused_more g told ps es cs p e c h.1 one)

-- ---- what serves

origin_if : (b : Bool) (n : ℕ) → is_by_table (if b then Repeat n else Cache) ≡ false
origin_if true n = refl
origin_if false n = refl

origin_next : (b : Bool) (m : MadeValue) (made : List MadeValue) (e : EntryValue)
    → is_by_table (origin_of made e) ≡ false
    → is_by_table (if b then origin_by m e else origin_of made e) ≡ false
origin_next true m made e rest =
    origin_if (proof_eq m.mark (mark_of e.found) && option_eq nat_eq m.sig (sig_of e.found)) m.number
origin_next false m made e rest = rest

-- no rule judged a set that is served
pub origin_served : (made : List MadeValue) (e : EntryValue) → is_by_table (origin_of made e) ≡ false
unfolding origin_of
origin_served [] e = refl
origin_served (m ∷ made) e = origin_next (key_eq m.key e.key) m made e (origin_served made e)
