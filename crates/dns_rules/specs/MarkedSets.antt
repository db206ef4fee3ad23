-- An RRset after it was judged: its mark, and the signature that decided (RFC 4035, 4.3 and 5.3).
use Rattle.std.specs.Prelude.{ℕ, Option, slice_get}
use Rattle.std.specs.Option.{option_and_then}
use Rattle.dns_model.specs.declared.proof.Proof.{Proof}
use Rattle.dns_model.specs.declared.section.Section.{Section}
use Rattle.dns_model.specs.Records.{Rr, RrSet}
use Rattle.dns_model.specs.SoundAnswers.{PlacedSet, in_section}

-- a set in its section, with its mark and the place of the signature that decided
pub record MarkedSet : Type 0 where
  pub section : Section
  pub set : RrSet
  pub mark : Proof
  pub sig : Option ℕ

abbrev pub placed_of : MarkedSet → PlacedSet
placed_of judged = in_section judged.section judged.set

-- the signature that decided
abbrev pub decider : MarkedSet → Option Rr
decider judged = option_and_then (slice_get judged.set.signatures) judged.sig
