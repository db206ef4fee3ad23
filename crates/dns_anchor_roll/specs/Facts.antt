-- What a sighting comes to, by who was trusted before it (RFC 5011, 2.1 and 2.2).
use Rattle.std.specs.Prelude.{ℕ, Bool, true, false, ◌&&◌, ◌||◌, List, [], take, Option, None, Some, is_some, if◌then◌else◌}
use Rattle.std.specs.Option.{option_map, option_map_or}
use Rattle.std.specs.List.{filter, find, list_any}
use Rattle.dns_model.specs.Names.{Labels}
use Rattle.dns_model.specs.Records.{Rr, RrSet}
use Rattle.dns_model.specs.RecordViews.{rrsig_of}
use Rattle.dns_model.specs.Views.{is_revoked}
use Rattle.dns_model.specs.Keys.{VerifierAnswers}
use Rattle.dns_model.specs.Chains.{Judge, judge}
use Rattle.dns_rules.specs.Validity.{is_good_by, is_good_but_for_revoke}
use Rattle.dns_rules.specs.Marks.{most_signatures}
use Rattle.dns_anchor_roll.specs.FollowedKeys.{followed, key_bytes, is_unrevoked, shows_form}
use Rattle.dns_anchor_roll.specs.Sightings.{SightingValue, is_key_set}

-- what a sighting comes to
pub record Fact : Type 0 where
  pub moment : ℕ
  -- seconds: the original ttl of the signature by which it is accepted; none where it isn't accepted
  pub ttl : Option ℕ
  -- the keys that it shows without the flag REVOKE
  pub shows : List ℕ → Bool
  pub revokes : List ℕ → Bool

-- the signatures that count: the first eight of a zone's key set; another set has none
abbrev pub tried : Labels → RrSet → List Rr
tried zone set = if is_key_set zone set then take most_signatures set.signatures else []

-- by whom it is judged: a verifier at the sighting's moment. No anchor is looked at
abbrev pub judge_at : VerifierAnswers → ℕ → Judge
judge_at answers moment = judge answers [] moment

-- a record that may accept its set: an unrevoked key that is trusted
abbrev pub may_accept : Labels → (List ℕ → Bool) → Rr → Bool
may_accept zone trusted r = option_map_or (λ text. is_unrevoked text && trusted (key_bytes text)) (followed zone r) false

-- a signature is good by one of some keys
abbrev pub is_good_by_any : Judge → RrSet → List Rr → Rr → Bool
is_good_by_any j set keys sig = list_any (is_good_by j set sig) keys

-- the signature by which a sighting is accepted: the first that is good by an unrevoked member that was trusted before (RFC 5011, 2.2)
abbrev pub accepting : VerifierAnswers → Labels → (List ℕ → Bool) → SightingValue → Option Rr
accepting answers zone trusted s =
    find (is_good_by_any (judge_at answers s.moment) s.set (filter (may_accept zone trusted) s.set.records)) (tried zone s.set)

-- seconds: the ttl of a set when it was signed (RFC 4034, 3.1.4)
abbrev pub original_ttl : Rr → ℕ
original_ttl r = option_map_or (λ sig. sig.original_ttl) (rrsig_of r) 0

abbrev pub accepted_ttl : VerifierAnswers → Labels → (List ℕ → Bool) → SightingValue → Option ℕ
accepted_ttl answers zone trusted s = option_map original_ttl (accepting answers zone trusted s)

-- a record is a key with the flag REVOKE, and one of some signatures is good by it but for that flag (RFC 5011, 2.1)
abbrev pub is_signed_revoked : Judge → RrSet → List Rr → Rr → Bool
is_signed_revoked j set signatures r = list_any (λ sig. is_good_but_for_revoke j set sig r) signatures

-- a sighting shows a key revoked and signed by itself
abbrev pub shows_revoked : VerifierAnswers → Labels → SightingValue → List ℕ → Bool
shows_revoked answers zone s key =
    list_any (λ r. shows_form zone is_revoked key r && is_signed_revoked (judge_at answers s.moment) s.set (tried zone s.set) r)
    s.set.records

-- the fact of a sighting. It revokes a key that was trusted before, and any key where it is accepted
abbrev pub fact_of : VerifierAnswers → Labels → (List ℕ → Bool) → SightingValue → Fact
fact_of answers zone trusted s = record {
  moment = s.moment;
  ttl = accepted_ttl answers zone trusted s;
  shows = λ key. list_any (shows_form zone is_unrevoked key) s.set.records;
  revokes = λ key. (is_some (accepted_ttl answers zone trusted s) || trusted key) && shows_revoked answers zone s key;
}
