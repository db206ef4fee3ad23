-- What a step of a lookup judges and asks (RFC 4035, 4.3 and 5).
use Rattle.std.specs.Prelude.{ℕ, Bool, ◌==◌, ◌||◌, min, List, Option}
use Rattle.std.specs.Option.{option_map}
use Rattle.std.specs.List.{filter}
use Rattle.dns_model.specs.Types.{type_soa, type_ds, type_nsec, type_dnskey, type_nsec3}
use Rattle.dns_model.specs.Records.{Rr, RrSet, Question}
use Rattle.dns_model.specs.RecordViews.{rrsig_of}
use Rattle.dns_model.specs.SoundAnswers.{Told, PlacedSet, placed_sets}
use Rattle.dns_rules.specs.Marks.{key_question}

-- how many sends a lookup makes at the most
abbrev pub most_sends : ℕ
most_sends = 1024

-- how far a lookup goes: how deep its asks go, up to how many iterations of the hash NSEC3 records are judged, and above how many they
-- prove nothing at all (RFC 9276, 3.2)
pub record Limits : Type 0 where
  pub depth : ℕ
  pub soft : ℕ
  pub hard : ℕ

-- how deep nested asks go, where they may go so deep
abbrev pub depth_limit : ℕ → ℕ
depth_limit depth = min depth 255

-- the same, with asks that go as deep as that
abbrev pub effective : Limits → Limits
effective limits = record limits { depth = depth_limit limits.depth }

-- the types whose sets are judged at a depth: all at the top, below it those by which others are judged
abbrev pub is_judged_at : ℕ → ℕ → Bool
is_judged_at depth rtype =
    (depth == 0) || (rtype == type_dnskey) || (rtype == type_ds) || (rtype == type_nsec) || (rtype == type_nsec3) || (rtype == type_soa)

-- those of some sets that are judged at a depth, in order
abbrev pub judged_at : ℕ → List PlacedSet → List PlacedSet
judged_at depth placed = filter (λ p. is_judged_at depth p.set.rtype) placed

-- and those of a step
abbrev pub judged_part : ℕ → Told → List PlacedSet
judged_part depth told = judged_at depth (placed_sets told)

-- the ask of a signature for its signer's keys
abbrev pub ask_of : RrSet → Rr → Option Question
ask_of set r = option_map (λ sig. key_question set.class sig.signer) (rrsig_of r)
