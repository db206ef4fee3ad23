-- Who is trusted by a table is trusted by the facts that it keeps.
use Rattle.std.proofs.Common.{◌≡◌, ℕ, Bool, true, false, cond, not, ◌&&◌, ◌||◌, List, [], ◌∷◌, reverse, Option, None, Some, is_some, slice_get, refl, sym, ap, ◌∙◌}
use Rattle.std.specs.List.{filter, find, list_any}
use Rattle.std.specs.Option.{option_map, option_map_or}
use Rattle.std.specs.Prelude.{if◌then◌else◌}
use Rattle.dns_model.specs.Sections.{is_empty}
use Rattle.dns_model.specs.Names.{Labels}
use Rattle.dns_model.specs.Keys.{VerifierAnswers}
use Rattle.dns_model.specs.Records.{Rr}
use Rattle.dns_model.specs.Views.{DnskeyValue}
use Rattle.dns_anchor_roll.specs.FollowedKeys.{followed, is_given, is_unrevoked, key_bytes}
use Rattle.dns_anchor_roll.specs.Sightings.{SightingValue}
use Rattle.dns_anchor_roll.specs.Facts.{Fact, accepted_ttl, accepting, fact_of, is_good_by_any, judge_at, may_accept, original_ttl, shows_revoked, tried}
use Rattle.dns_anchor_roll.specs.Trust.{Start, accepted, facts, is_accepted, next_fact, stretch, oldest, trusted_by, was_held}
use Rattle.dns_anchor_roll.specs.States.{is_shown_last, revoked_at, state_after, state_by}
use Rattle.dns_anchor_roll.specs.After.{last_moment}
use Rattle.dns_anchor_roll.specs.Findings.{FindsFact}
use Rattle.dns_anchor_roll.specs.Tables.{IsSameTable, IsTableOf, TakesFound, entry_at, has_entry, is_trusted, standing_by, standing_in, standing_of, state_by_standing, state_in, stretch_from}
use Rattle.dns_anchor_roll.specs.declared.found.Found.{Found}
use Rattle.dns_anchor_roll.specs.declared.standing.Standing.{Standing}
use Rattle.dns_anchor_roll.specs.declared.standing.Standing.TheVariants.{Unknown, Trusted, Revoked}
use Rattle.dns_anchor_roll.specs.declared.states.KeyState.{KeyState}
use Rattle.dns_anchor_roll.specs.declared.key_table.KeyTable.{KeyTable}
use Rattle.dns_anchor_roll.proofs.Lists.{filter_agree, first_cons, is_some_oldest}
use Rattle.dns_anchor_roll.proofs.Steps.{IsFoundOf, stretch_cons, table_after}

-- ---- trust

trusted_standing : (revoked : Option Fact) (given : Bool)
    → is_trusted (standing_by (option_map (λ f. f.moment) revoked) given) ≡ (not (is_some revoked) && given)
trusted_standing None true = refl
trusted_standing None false = refl
trusted_standing (Some f) given = refl

pub trusted_of : (given : List (List ℕ)) (facts : List Fact) (key : List ℕ)
    → is_trusted (standing_of given facts key) ≡ trusted_by given facts key
trusted_of given facts key =
    trusted_standing (find (λ f. f.revokes key) (reverse facts)) (is_given given key || was_held key (accepted facts))
    ∙ ap (λ b. not b && (is_given given key || was_held key (accepted facts))) (is_some_oldest (λ f. f.revokes key) facts)

pub trusted_in : (given : List (List ℕ)) (facts : List Fact) (table : KeyTable) → IsTableOf given facts table → (key : List ℕ)
    → is_trusted (standing_in table.known key) ≡ trusted_by given facts key
trusted_in given facts table is key = ap is_trusted (is.known key) ∙ trusted_of given facts key

-- ---- what is found by a table is what the facts say

accepts_alike : (trusted by : List ℕ → Bool) → ((key : List ℕ) → trusted key ≡ by key) → (o : Option DnskeyValue)
    → option_map_or (λ text. is_unrevoked text && trusted (key_bytes text)) o false
    ≡ option_map_or (λ text. is_unrevoked text && by (key_bytes text)) o false
accepts_alike trusted by same None = refl
accepts_alike trusted by same (Some text) = ap (λ b. is_unrevoked text && b) (same (key_bytes text))

acceptors_alike : (zone : Labels) (trusted by : List ℕ → Bool) → ((key : List ℕ) → trusted key ≡ by key) → (records : List Rr)
    → filter (may_accept zone trusted) records ≡ filter (may_accept zone by) records
acceptors_alike zone trusted by same records =
    filter_agree (may_accept zone trusted) (may_accept zone by) (λ r. accepts_alike trusted by same (followed zone r)) records

ttl_alike : (answers : VerifierAnswers) (zone : Labels) (trusted by : List ℕ → Bool) → ((key : List ℕ) → trusted key ≡ by key)
    → (s : SightingValue) → accepted_ttl answers zone trusted s ≡ accepted_ttl answers zone by s
ttl_alike answers zone trusted by same s =
    ap (λ keys. option_map original_ttl (find (is_good_by_any (judge_at answers s.moment) s.set keys) (tried zone s.set)))
    (acceptors_alike zone trusted by same s.set.records)

pub found_of : (answers : VerifierAnswers) (zone : Labels) (trusted by : List ℕ → Bool) → ((key : List ℕ) → trusted key ≡ by key)
    → (s : SightingValue) (found : Found) → FindsFact answers zone trusted s found → IsFoundOf found (fact_of answers zone by s)
found_of answers zone trusted by same s found finds =
    let ttl = finds.ttl ∙ ttl_alike answers zone trusted by same s in
    record {
      ttl = ttl;
      shown = finds.shown;
      revoked = λ key. finds.revoked key
          ∙ ap (λ b. (is_some found.ttl || b) && shows_revoked answers zone s key) (same key)
          ∙ ap (λ o. (is_some o || by key) && shows_revoked answers zone s key) ttl;
    }

-- ---- the state of a key

shown_some : (b : Bool) (f : Fact) (facts : List Fact)
    → is_some (option_map stretch_from (oldest (cond b (f ∷ facts) []))) ≡ b
shown_some true f facts = ap (λ o. is_some (option_map stretch_from o)) (first_cons f facts)
shown_some false f facts = refl

shown_first : (key : List ℕ) (facts : List Fact)
    → is_some (option_map stretch_from (oldest (stretch key facts))) ≡ option_map_or (λ f. f.shows key) (slice_get facts 0) false
shown_first key [] = refl
shown_first key (f ∷ facts) =
    ap (λ fs. is_some (option_map stretch_from (oldest fs))) (stretch_cons key f facts) ∙ shown_some (f.shows key) f (stretch key facts)

pub shown_in : (given : List (List ℕ)) (facts : List Fact) (table : KeyTable) → IsTableOf given facts table → (key : List ℕ)
    → has_entry table.shown key ≡ is_shown_last facts key
shown_in given facts table is key = ap is_some (is.shown key) ∙ shown_first key (accepted facts)

state_step : (revoked : Option Fact) (held shown none : Bool) (now : ℕ)
    → state_by_standing (standing_by (option_map (λ f. f.moment) revoked) held) shown none now
    ≡ state_by (option_map (λ f. f.moment) revoked) (not (is_some revoked) && held) shown none now
state_step None true shown none now = refl
state_step None false shown none now = refl
state_step (Some f) held shown none now = refl

not_twice : (b : Bool) → not (not b) ≡ b
not_twice true = refl
not_twice false = refl

pub state_of_table : (given : List (List ℕ)) (facts : List Fact) (table : KeyTable) → IsTableOf given facts table → (key : List ℕ) (now : ℕ)
    → state_in table key now ≡ state_after given facts key now
state_of_table given facts table is key now =
    ap (λ s. state_by_standing s (has_entry table.shown key) (not table.accepted) now) (is.known key)
    ∙ ap (λ b. state_by_standing (standing_of given facts key) b (not table.accepted) now) (shown_in given facts table is key)
    ∙ ap (λ b. state_by_standing (standing_of given facts key) (is_shown_last facts key) b now)
    (ap not is.accepted ∙ not_twice (is_empty (accepted facts)))
    ∙ state_step (find (λ f. f.revokes key) (reverse facts)) (is_given given key || was_held key (accepted facts))
    (is_shown_last facts key) (is_empty (accepted facts)) now
    ∙ ap (λ b. state_by (revoked_at facts key) (not b && (is_given given key || was_held key (accepted facts)))
    (is_shown_last facts key) (is_empty (accepted facts)) now) (is_some_oldest (λ f. f.revokes key) facts)

-- ---- a table that has seen nothing

begun_standing : (given : Bool) → (if given then Trusted else Unknown) ≡ standing_by None (given || false)
begun_standing true = refl
begun_standing false = refl

pub table_begins : (given : List (List ℕ)) (table : KeyTable)
    → ((q : List ℕ) → standing_in table.known q ≡ (if is_given given q then Trusted else Unknown))
    → ((q : List ℕ) → entry_at table.shown q ≡ None) → table.accepted ≡ false → table.last ≡ None → IsTableOf given [] table
unfolding was_held
table_begins given table known shown accepted last = record {
  known = λ q. known q ∙ begun_standing (is_given given q);
  shown = shown;
  accepted = accepted;
  last = last;
}

-- ---- a roll

-- the moment of the last fact is that of the last sighting
pub last_of : (start : Start) (list : List SightingValue)
    → option_map (λ f. f.moment) (slice_get (facts start list) 0) ≡ last_moment list
unfolding facts
last_of start [] = refl
last_of start (s ∷ list) = refl

-- it has taken one sighting more
pub taken_after : (start : Start) (list : List SightingValue) (s : SightingValue) (found : Found) (old new : KeyTable)
    → IsTableOf start.given (facts start list) old
    → FindsFact start.answers start.zone (λ key. is_trusted (standing_in old.known key)) s found
    → TakesFound found s.moment old new → IsTableOf start.given (facts start (s ∷ list)) new
unfolding facts
taken_after start list s found old new is finds takes =
    table_after start.given (facts start list) found (next_fact start (facts start list) s) old new is
    (found_of start.answers start.zone (λ key. is_trusted (standing_in old.known key)) (trusted_by start.given (facts start list))
    (trusted_in start.given (facts start list) old is) s found finds)
    takes

-- what is found of a sighting says whether it is accepted
pub found_ttl : (start : Start) (list : List SightingValue) (s : SightingValue) (found : Found) (old : KeyTable)
    → IsTableOf start.given (facts start list) old
    → FindsFact start.answers start.zone (λ key. is_trusted (standing_in old.known key)) s found
    → is_some found.ttl ≡ is_accepted start list s
found_ttl start list s found old is finds =
    ap is_some (found_of start.answers start.zone (λ key. is_trusted (standing_in old.known key)) (trusted_by start.given (facts start list))
    (trusted_in start.given (facts start list) old is) s found finds).ttl

-- the same table but for room is that of the same facts
pub same_table : (given : List (List ℕ)) (fs : List Fact) (old new : KeyTable) → IsTableOf given fs old → IsSameTable old new → IsTableOf given fs new
same_table given fs old new is same = record {
  known = λ q. same.known q ∙ is.known q;
  shown = λ q. same.shown q ∙ is.shown q;
  accepted = same.accepted ∙ is.accepted;
  last = same.last ∙ is.last;
}
