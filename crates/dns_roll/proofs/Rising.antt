-- Where the moments of sights don't fall, those of their sightings don't.
use Rattle.std.proofs.Common.{◌≡◌, ℕ, ◌+◌, ◌<◌, ◌≤◌, Bool, true, false, cond, List, [], ◌∷◌, map, Option, None, Some, Result, Ok, Err, refl, sym, ap, subst, ◌∙◌, arith}
use Rattle.std.specs.Prelude.{nat_lt, if◌then◌else◌}
use Rattle.std.specs.List.{filter, filter_map, cons_option}
use Rattle.std.specs.Option.{option_map}
use Rattle.std.specs.Result.{result_ok}
use Rattle.std.proofs.lemmas.Bool.{ltb-false, le-ltb}
use Rattle.std.proofs.lemmas.Option.{same_Some}
use Rattle.dns_model.specs.Names.{Labels}
use Rattle.dns_model.specs.OptionSteps.{◌>>=◌}
use Rattle.dns_model.specs.Records.{MessageValue, Rr}
use Rattle.dns_message.specs.MessageAt.{message_at}
use Rattle.dns_message.specs.declared.decode_error.DecodeError.{DecodeError}
use Rattle.dns_anchor_roll.specs.After.{IsFall, fall_from, first_fall, is_before}
use Rattle.dns_anchor_roll.specs.Sightings.{SightingValue, is_key_record, is_key_signature, key_sighting, sighting_of}
use Rattle.dns_anchor_roll.specs.declared.states.RollError.{RollError}
use Rattle.dns_anchor_roll.specs.declared.states.RollError.TheVariants.{Earlier}
use Rattle.dns_roll.specs.RollGrammar.{fall_after, fall_of}
use Rattle.dns_roll.specs.RollValue.{SightValue}
use Rattle.dns_roll.specs.TrustedText.{sighting_in, sightings_in}

-- a sighting has the moment of its sight
moment_of_keys : (zone : Labels) (moment : ℕ) (keys signatures : List Rr) (x : SightingValue)
    → key_sighting zone moment keys signatures ≡ Some x → x.moment ≡ moment
moment_of_keys zone moment [] signatures x h = cc
moment_of_keys zone moment (key ∷ keys) signatures x h = ap (λ (s : SightingValue). s.moment) (sym (same_Some _ _ h))

moment_of_read : (zone : Labels) (moment : ℕ) (read : Result MessageValue DecodeError) (x : SightingValue)
    → (result_ok read >>= λ message. sighting_of zone moment message) ≡ Some x → x.moment ≡ moment
moment_of_read zone moment (Ok message) x h =
    moment_of_keys zone moment (filter (is_key_record zone) message.answers) (filter
    (is_key_signature zone) message.answers) x h
moment_of_read zone moment (Err fault) x h = cc

moment_of : (zone : Labels) (s : SightValue) (x : SightingValue) → sighting_in zone s ≡ Some x → x.moment ≡ s.moment
moment_of zone s x h = moment_of_read zone s.moment (message_at s.bytes) x h

-- a moment isn't later than another, where there is one
abbrev IsAtMost : Option ℕ → ℕ → Type 0
IsAtMost None last = Unit {0}
IsAtMost (Some before) last = before ≤ last

raised : (before : Option ℕ) (last moment : ℕ) → IsAtMost before last → last ≤ moment → IsAtMost before moment
raised None last moment h le = tt
raised (Some before) last moment h le = omega arith

never_before : (before : Option ℕ) (moment : ℕ) → IsAtMost before moment → is_before before moment ≡ false
never_before None moment h = refl
never_before (Some before) moment h = le-ltb moment before h

-- what it says that no moment falls, of the first and of those after it
record Rises (last : ℕ) (moment : ℕ) (rest : List ℕ) : Type 0 where
  here : last ≤ moment
  later : fall_after moment rest ≡ None

none_later : (o : Option ℕ) → option_map (λ n. n + 1) o ≡ None → o ≡ None
none_later None h = refl
none_later (Some n) h = cc

rises_by : (b : Bool) (last moment : ℕ) (rest : List ℕ) → nat_lt moment last ≡ b
    → (if b then Some 0 else option_map (λ n. n + 1) (fall_after moment rest)) ≡ None → Rises last moment rest
rises_by true last moment rest e h = cc
rises_by false last moment rest e h = record {
  here = ltb-false moment last e;
  later = none_later
      (fall_after moment rest) h;
}

rises_of : (last moment : ℕ) (rest : List ℕ) → fall_after last (moment ∷ rest) ≡ None → Rises last moment rest
unfolding fall_after
rises_of last moment rest h = rises_by (nat_lt moment last) last moment rest refl h

-- one sighting more
fall_one : (before : Option ℕ) (x : SightingValue) (xs : List SightingValue) → is_before before x.moment ≡ false
    → fall_from before (x ∷ xs) ≡ fall_from (Some x.moment) xs
unfolding fall_from
fall_one before x xs h = ap (λ b. cond b before (fall_from (Some x.moment) xs)) h

fall_none : (before : Option ℕ) → fall_from before [] ≡ None
unfolding fall_from
fall_none before = refl

rising_step : (zone : Labels) (s : SightValue) (rest : List SightValue) (before : Option ℕ) (o : Option SightingValue)
    → sighting_in zone s ≡ o → IsAtMost before s.moment
    → ((b : Option ℕ) → IsAtMost b s.moment → fall_from b (sightings_in zone rest) ≡ None)
    → fall_from before (cons_option o (sightings_in zone rest)) ≡ None
rising_step zone s rest before None e at later = later before at
rising_step zone s rest before (Some x) e at later =
    let same : x.moment ≡ s.moment = moment_of zone s x e in
    fall_one before x (sightings_in zone rest) (ap (is_before before) same ∙ never_before before s.moment at)
    ∙ later (Some x.moment) (omega (arith, same))

rising_from : (zone : Labels) (sights : List SightValue) (last : ℕ) (before : Option ℕ) → IsAtMost before last
    → fall_after last (map (λ s. s.moment) sights) ≡ None → fall_from before (sightings_in zone sights) ≡ None
rising_from zone [] last before at h = fall_none before
rising_from zone (s ∷ rest) last before at h =
    let rises = rises_of last s.moment (map (λ s. s.moment) rest) h in
    rising_step zone s rest before (sighting_in zone s) refl (raised before last s.moment at rises.here)
    (λ b below. rising_from zone rest s.moment b below rises.later)

pub never_falls : (zone : Labels) (sights : List SightValue) → fall_of sights ≡ None
    → first_fall (sightings_in zone sights) ≡ None
never_falls zone sights h = rising_from zone sights 0 None tt h

some_none : (o : Option ℕ) (last : ℕ) → o ≡ None → o ≡ Some last → ⊥
some_none o last none some = cc

-- so no sighting is refused
pub no_fall : (zone : Labels) (sights : List SightValue) (sightings : List SightingValue) (e : RollError) (last : ℕ)
    → sightings ≡ sightings_in zone sights → fall_of sights ≡ None → e ≡ Earlier last → IsFall (first_fall sightings) e
    → ⊥
no_fall zone sights sightings e last of rises is fall =
    some_none (first_fall sightings) last (ap first_fall of ∙ never_falls zone sights rises)
    (subst (IsFall (first_fall sightings)) is fall)
