-- What a table keeps follows the facts of sightings, one after another.
use Rattle.std.proofs.Common.{◌≡◌, ℕ, ◌+◌, Bool, true, false, cond, not, ◌&&◌, ◌||◌, List, [], ◌∷◌, reverse, Option, None, Some, is_some, slice_get, unwrap_or, refl, sym, ap, ◌∙◌}
use Rattle.std.specs.Prelude.{max}
use Rattle.std.specs.List.{filter, find, take_while, list_any}
use Rattle.std.specs.Option.{option_map, option_map_or, option_or}
use Rattle.std.proofs.lemmas.List.Sums.{take_while-cons}
use Rattle.dns_model.specs.Sections.{is_empty}
use Rattle.dns_anchor_roll.specs.FollowedKeys.{is_given}
use Rattle.dns_anchor_roll.specs.Facts.{Fact}
use Rattle.dns_anchor_roll.specs.Trust.{accepted, stretch, oldest, hold_down, is_over, is_held, was_held}
use Rattle.dns_anchor_roll.specs.States.{revoked_at}
use Rattle.dns_anchor_roll.specs.Tables.{among, begun, changed_if, entry_at, gone_on, is_done_at, is_through, IsTableOf, next_stretch, settled, standing_by, standing_in, standing_of, stretch_from, stretch_of, TakesFound}
use Rattle.dns_anchor_roll.specs.declared.found.Found.{Found}
use Rattle.dns_anchor_roll.specs.declared.standing.Stretch.{Stretch}
use Rattle.dns_anchor_roll.specs.declared.standing.Standing.{Standing}
use Rattle.dns_anchor_roll.specs.declared.standing.Standing.TheVariants.{Unknown, Trusted, Revoked}
use Rattle.dns_anchor_roll.specs.declared.standing.Change.TheVariants.{Trust, Revoke}
use Rattle.dns_anchor_roll.specs.declared.key_table.KeyTable.{KeyTable}
use Rattle.dns_anchor_roll.proofs.Lists.{first_cons, find_cons, only_if}

-- ---- accepted facts, once there is one more

accepted_is : (f : Fact) (facts : List Fact) (o : Option ℕ) → f.ttl ≡ o
    → accepted (f ∷ facts) ≡ cond (is_some o) (f ∷ accepted facts) (accepted facts)
accepted_is f facts o e = ap (λ t. cond (is_some t) (f ∷ accepted facts) (accepted facts)) e

-- ---- the stretch of a key

abbrev begins : Option Fact → Option Stretch
begins first = option_map stretch_from first

abbrev from_ttl : Fact → Option ℕ → Stretch
from_ttl f ttl = record { since = f.moment; wait = max 2592000 (unwrap_or ttl 0) }

goes_on : (f : Fact) (ttl : ℕ) (first : Option Fact) → f.ttl ≡ Some ttl
    → gone_on true (begins first) f.moment ttl ≡ begins (Some (unwrap_or first f))
goes_on f ttl None e = ap (λ t. Some (from_ttl f t)) (sym e)
goes_on f ttl (Some g) e = refl

shown_or_not : (key : List ℕ) (f : Fact) (facts : List Fact) (ttl : ℕ) (b : Bool) → f.ttl ≡ Some ttl
    → gone_on b (begins (oldest (stretch key facts))) f.moment ttl
    ≡ begins (oldest (cond b (f ∷ stretch key facts) []))
shown_or_not key f facts ttl true e =
    goes_on f ttl (oldest (stretch key facts)) e ∙ sym (ap begins (first_cons f (stretch key facts)))
shown_or_not key f facts ttl false e = refl

pub stretch_cons : (key : List ℕ) (f : Fact) (facts : List Fact) → stretch key (f ∷ facts) ≡ cond (f.shows key) (f ∷ stretch key facts) []
stretch_cons key f facts = take_while-cons (λ g. g.shows key) f facts

stretch_step : (key : List ℕ) (f : Fact) (facts : List Fact) (o : Option ℕ) → f.ttl ≡ o
    → next_stretch (f.shows key) f.moment o (stretch_of facts key) ≡ stretch_of (f ∷ facts) key
stretch_step key f facts None e = sym (ap (λ fs. begins (oldest (stretch key fs))) (accepted_is f facts None e))
stretch_step key f facts (Some ttl) e =
    shown_or_not key f (accepted facts) ttl (f.shows key) e
    ∙ sym (ap (λ fs. begins (oldest fs)) (stretch_cons key f (accepted facts)))
    ∙ sym (ap (λ fs. begins (oldest (stretch key fs))) (accepted_is f facts (Some ttl) e))

-- ---- what is known of a key

done_as_over : (first : Option Fact) (moment : ℕ) → is_done_at (begins first) moment ≡ option_map_or (λ g. is_over g moment) first false
done_as_over None moment = refl
done_as_over (Some g) moment = refl

held_step : (key : List ℕ) (f : Fact) (facts : List Fact) (o : Option ℕ) → f.ttl ≡ o
    → (is_through o (stretch_of (f ∷ facts) key) f.moment || was_held key (accepted facts)) ≡ was_held key (accepted (f ∷ facts))
unfolding was_held
held_step key f facts None e = sym (ap (was_held key) (accepted_is f facts None e))
held_step key f facts (Some ttl) e =
    ap (λ fs. is_done_at (begins (oldest (stretch key fs))) f.moment || was_held key (accepted facts)) (accepted_is f facts (Some ttl) e)
    ∙ ap (λ b. b || was_held key (accepted facts)) (done_as_over (oldest (stretch key (f ∷ accepted facts))) f.moment)
    ∙ sym (ap (was_held key) (accepted_is f facts (Some ttl) e))

comes_through : (given through held : Bool) → changed_if through Trust (standing_by None (given || held)) ≡ standing_by None (given || (through || held))
comes_through true true held = refl
comes_through true false held = refl
comes_through false true true = refl
comes_through false true false = refl
comes_through false false held = refl

is_revoked_then : (revoked trusted : Bool) (moment : ℕ)
    → changed_if revoked (Revoke moment) (standing_by None trusted) ≡ standing_by (cond revoked (Some moment) None) trusted
is_revoked_then true true moment = refl
is_revoked_then true false moment = refl
is_revoked_then false trusted moment = refl

moment_of : (b : Bool) (f : Fact) → option_map (λ g. g.moment) (only_if b f) ≡ cond b (Some f.moment) None
moment_of true f = refl
moment_of false f = refl

revoked_through : (through revoked : Bool) (moment at : ℕ) → settled revoked moment through (Revoked at) ≡ Revoked at
revoked_through true true moment at = refl
revoked_through true false moment at = refl
revoked_through false true moment at = refl
revoked_through false false moment at = refl

settles : (first : Option Fact) (f : Fact) (revoked given through held : Bool)
    → settled revoked f.moment through (standing_by (option_map (λ g. g.moment) first) (given || held))
    ≡ standing_by (option_map (λ g. g.moment) (option_or first (only_if revoked f))) (given || (through || held))
settles (Some g) f revoked given through held = revoked_through through revoked f.moment g.moment
settles None f revoked given through held =
    ap (changed_if revoked (Revoke f.moment)) (comes_through given through held)
    ∙ is_revoked_then revoked (given || (through || held)) f.moment
    ∙ sym (ap (λ m. standing_by m (given || (through || held))) (moment_of revoked f))

standing_step : (given : List (List ℕ)) (key : List ℕ) (f : Fact) (facts : List Fact)
    → settled (f.revokes key) f.moment (is_through f.ttl (stretch_of (f ∷ facts) key) f.moment) (standing_of given facts key)
    ≡ standing_of given (f ∷ facts) key
standing_step given key f facts =
    settles (find (λ g. g.revokes key) (reverse facts)) f (f.revokes key) (is_given given key)
    (is_through f.ttl (stretch_of (f ∷ facts) key) f.moment) (was_held key (accepted facts))
    ∙ ap (λ b. standing_by (option_map (λ g. g.moment) (option_or (find (λ g. g.revokes key) (reverse facts)) (only_if (f.revokes key) f)))
    (is_given given key || b)) (held_step key f facts f.ttl refl)
    ∙ sym (ap (λ o. standing_by (option_map (λ g. g.moment) o) (is_given given key || was_held key (accepted (f ∷ facts))))
    (find_cons (λ g. g.revokes key) f facts))

-- ---- a table

accepted_step : (f : Fact) (facts : List Fact) (o : Option ℕ) → f.ttl ≡ o
    → (is_some o || not (is_empty (accepted facts))) ≡ not (is_empty (accepted (f ∷ facts)))
accepted_step f facts None e = sym (ap (λ fs. not (is_empty fs)) (accepted_is f facts None e))
accepted_step f facts (Some ttl) e = sym (ap (λ fs. not (is_empty fs)) (accepted_is f facts (Some ttl) e))

-- what was found is what a fact says
pub record IsFoundOf (found : Found) (f : Fact) : Type 0 where
  pub ttl : found.ttl ≡ f.ttl
  pub shown : (key : List ℕ) → among key found.shown.items ≡ f.shows key
  pub revoked : (key : List ℕ) → among key found.revoked.items ≡ f.revokes key

shown_after : (given : List (List ℕ)) (facts : List Fact) (found : Found) (f : Fact) (old new : KeyTable) → IsTableOf given facts old
    → IsFoundOf found f → TakesFound found f.moment old new → (key : List ℕ) → entry_at new.shown key ≡ stretch_of (f ∷ facts) key
shown_after given facts found f old new is same takes key =
    takes.shown key
    ∙ ap (λ b. next_stretch b f.moment found.ttl (entry_at old.shown key)) (same.shown key)
    ∙ ap (λ o. next_stretch (f.shows key) f.moment o (entry_at old.shown key)) same.ttl
    ∙ ap (next_stretch (f.shows key) f.moment f.ttl) (is.shown key)
    ∙ stretch_step key f facts f.ttl refl

known_after : (given : List (List ℕ)) (facts : List Fact) (found : Found) (f : Fact) (old new : KeyTable) → IsTableOf given facts old
    → IsFoundOf found f → TakesFound found f.moment old new → (key : List ℕ) → standing_in new.known key ≡ standing_of given (f ∷ facts) key
known_after given facts found f old new is same takes key =
    takes.known key
    ∙ ap (λ b. settled b f.moment (is_through found.ttl (entry_at new.shown key) f.moment) (standing_in old.known key)) (same.revoked key)
    ∙ ap (λ o. settled (f.revokes key) f.moment (is_through o (entry_at new.shown key) f.moment) (standing_in old.known key)) same.ttl
    ∙ ap (λ s. settled (f.revokes key) f.moment (is_through f.ttl s f.moment) (standing_in old.known key))
    (shown_after given facts found f old new is same takes key)
    ∙ ap (settled (f.revokes key) f.moment (is_through f.ttl (stretch_of (f ∷ facts) key) f.moment)) (is.known key)
    ∙ standing_step given key f facts

-- a table that has taken what was found of one more sighting
pub table_after : (given : List (List ℕ)) (facts : List Fact) (found : Found) (f : Fact) (old new : KeyTable) → IsTableOf given facts old
    → IsFoundOf found f → TakesFound found f.moment old new → IsTableOf given (f ∷ facts) new
table_after given facts found f old new is same takes = record {
  known = known_after given facts found f old new is same takes;
  shown = shown_after given facts found f old new is same takes;
  accepted = takes.accepted ∙ ap (λ o. is_some o || old.accepted) same.ttl ∙ ap (λ b. is_some f.ttl || b) is.accepted
      ∙ accepted_step f facts f.ttl refl;
  last = takes.last;
}
