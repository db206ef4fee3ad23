-- Laws of what is written of a text of sightings.
use Rattle.std.specs.Prelude.{ℕ, ◌≡◌, ◌≤◌, List, reverse}
use Rattle.std.specs.List.{count_by}
use Rattle.dns_anchor_roll.specs.FollowedKeys.{is_given}
use Rattle.dns_anchor_roll.specs.Sightings.{SightingValue}
use Rattle.dns_anchor_roll.specs.Trust.{Start, trusted}
use Rattle.dns_roll.specs.TrustedText.{is_same_key, trusted_rdatas}

-- the keys that are written are exactly the trusted ones, by algorithm and public key
abbrev pub ExactlyTrusted : Type 0
ExactlyTrusted = (start : Start) (sightings : List SightingValue) (key : List ℕ)
    → is_given (trusted_rdatas start sightings) key ≡ trusted start (reverse sightings) key

-- no key is written twice
abbrev pub WrittenOnce : Type 0
WrittenOnce = (start : Start) (sightings : List SightingValue) (rdata : List ℕ)
    → count_by (is_same_key rdata) (trusted_rdatas start sightings) ≤ 1
