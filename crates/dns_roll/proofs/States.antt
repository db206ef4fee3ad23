-- A key is trusted exactly where its state is Valid or Missing.
use Rattle.std.proofs.Common.{◌≡◌, ℕ, Bool, true, false, not, ◌&&◌, ◌||◌, List, reverse, Option, None, Some, is_some, refl, sym, ap, ◌∙◌}
use Rattle.std.specs.Prelude.{nat_le, ◌+◌, if◌then◌else◌}
use Rattle.std.specs.List.{find}
use Rattle.std.specs.Option.{option_map, option_map_or}
use Rattle.dns_model.specs.Sections.{is_empty}
use Rattle.dns_model.specs.Views.{DnskeyValue}
use Rattle.dns_anchor_roll.specs.FollowedKeys.{is_given, key_bytes, key_in}
use Rattle.dns_anchor_roll.specs.Sightings.{SightingValue}
use Rattle.dns_anchor_roll.specs.Facts.{Fact}
use Rattle.dns_anchor_roll.specs.Trust.{Start, accepted, facts, is_revoked_by, trusted, trusted_by, was_held}
use Rattle.dns_anchor_roll.specs.States.{is_shown_last, revoked_at, state_by, state_of, state_of_key}
use Rattle.dns_anchor_roll.specs.declared.states.KeyState.{KeyState}
use Rattle.dns_anchor_roll.specs.declared.states.KeyState.TheVariants.{Pending, Valid, Missing, Revoked, Removed}
use Rattle.dns_anchor_roll.proofs.Lists.{is_some_oldest}
use Rattle.dns_roll.specs.TrustedText.{is_trusted_key, tells_trust}

revoked_state : (b : Bool) → tells_trust (Some (if b then Removed else Revoked)) ≡ false
revoked_state true = refl
revoked_state false = refl

trusted_state : (b : Bool) → tells_trust (Some (if b then Valid else Missing)) ≡ true
trusted_state true = refl
trusted_state false = refl

other_state : (b : Bool) → tells_trust (if b then Some Pending else None) ≡ false
other_state true = refl
other_state false = refl

by_state : (o : Option ℕ) (t shown none : Bool) (now : ℕ) → (is_some o ≡ true → t ≡ false)
    → tells_trust (state_by o t shown none now) ≡ t
by_state (Some moment) t shown none now never = revoked_state (nat_le (moment + 2592000) now) ∙ sym (never refl)
by_state None true shown none now never = trusted_state (shown || none)
by_state None false shown none now never = other_state shown

some_map : {X Y : Type 0} (f : X → Y) (o : Option X) → is_some (option_map f o) ≡ is_some o
some_map f None = refl
some_map f (Some x) = refl

revoked_untrusted : (given : List (List ℕ)) (fs : List Fact) (key : List ℕ) → is_some (revoked_at fs key) ≡ true
    → trusted_by given fs key ≡ false
revoked_untrusted given fs key h =
    let revoked : is_revoked_by fs key ≡ true =
    sym (is_some_oldest (λ (f : Fact). f.revokes key) fs)
    ∙ sym (some_map (λ (f : Fact). f.moment) (find (λ (f : Fact). f.revokes key) (reverse fs))) ∙ h in
    ap (λ b. not b && (is_given given key || was_held key (accepted fs))) revoked

by_key : (given : List (List ℕ)) (fs : List Fact) (now : ℕ) (o : Option DnskeyValue)
    → tells_trust (state_of_key given fs now o) ≡ option_map_or (λ text. trusted_by given fs (key_bytes text)) o false
by_key given fs now None = refl
by_key given fs now (Some text) =
    by_state (revoked_at fs (key_bytes text)) (trusted_by given fs (key_bytes text)) (is_shown_last fs
    (key_bytes text)) (is_empty (accepted fs)) now
    (revoked_untrusted given fs (key_bytes text))

pub state_tells : (start : Start) (list : List SightingValue) (rdata : List ℕ) (now : ℕ)
    → tells_trust (state_of start list rdata now) ≡ is_trusted_key (trusted start list) rdata
state_tells start list rdata now = by_key start.given (facts start list) now (key_in rdata)
