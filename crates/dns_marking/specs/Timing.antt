-- For private functions of this crate only: the ttl that a judged set leaves to its records, and a record that is marked with it
-- (RFC 4035, 5.3.3).
use Rattle.std.specs.Prelude.{◌≡◌, ℕ, not, ◌&&◌, min, List, map, Option, None, if◌then◌else◌}
use Rattle.std.specs.Option.{option_map, unwrap_or}
use Rattle.dns_model.specs.Records.{Rr}
use Rattle.dns_model.specs.RecordViews.{rrsig_of}
use Rattle.dns_model.specs.Sections.{is_signature}
use Rattle.dns_model.specs.SoundAnswers.{is_secure, signed_ttl, ttl_of}
use Rattle.dns_rules.specs.ChainedSets.{bare}
use Rattle.dns_rules.specs.MarkedSets.{MarkedSet, decider}
use Rattle.dns_rules.specs.MarkParts.{first_record, is_place}
use Rattle.dns_rules.specs.Marking.{cleared}
use Rattle.dns_marking.specs.declared.marking.TimedSets.{TimedSets}

-- under the signature that decided a Secure set the ttl of its first record, bounded by what the signature leaves
abbrev pub set_ttl : ℕ → MarkedSet → Option ℕ
set_ttl now judged =
    if is_secure judged.mark
    then option_map (λ s. min (ttl_of (first_record judged.set.records)) (signed_ttl (rrsig_of s) now)) (decider judged)
    else None

-- those of sets, in their order
abbrev pub set_ttls : ℕ → List MarkedSet → List (Option ℕ)
set_ttls now sets = map (set_ttl now) sets

-- each set has its ttl
pub record AreTimed (timed : TimedSets) : Type 0 where
  pub each : timed.ttls.now ≡ set_ttls timed.moment (bare timed.sets.now)

-- a record of a set that leaves it this ttl, or its own; of the signatures of the set the one at the place of that which decided
abbrev pub marked_with : Option ℕ → ℕ → Rr → MarkedSet → Rr
marked_with ttl place r judged =
    if is_signature r && not (is_place judged.sig place)
    then cleared r
    else record r { proof = judged.mark; ttl = unwrap_or ttl r.ttl }
