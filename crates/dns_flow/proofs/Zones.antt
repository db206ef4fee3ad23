-- What a zone leaves to what is unsigned in it, by the mark alone.
use Rattle.std.proofs.Common.{◌≡◌, refl}
use Rattle.dns_model.specs.declared.proof.Proof.{Proof}
use Rattle.dns_model.specs.declared.proof.Proof.TheVariants as proof
use Rattle.dns_model.specs.Records.{Question}
use Rattle.dns_model.specs.SoundAnswers.{Told, PlacedSet}
use Rattle.dns_rules.specs.Delegations.{ZoneVerdict, Signed, Insecure, Bogus, is_insecure}
use Rattle.dns_rules.specs.Outcome.{Outcome, outcome_by_zone}
use Rattle.dns_rules.specs.ProofErrors.{UnknownKeyAlgorithm}
use Rattle.dns_rules.specs.Unsigned.{unsigned_mark, unsigned_by}
use Rattle.dns_flow.specs.Phases.{unsigned_with, outcome_by_mark}

-- an outcome that is each zone's with this mark is the mark's
pub by_each_zone : (q : Question) (told : Told) (mark : Proof) (o : Outcome)
    → ((zone : ZoneVerdict) → is_insecure mark ≡ is_insecure (unsigned_mark zone).mark → o ≡ outcome_by_zone q told zone)
    → o ≡ outcome_by_mark q told mark
by_each_zone q told proof.Secure o each = each (Bogus UnknownKeyAlgorithm) refl
by_each_zone q told proof.Insecure o each = each (Insecure UnknownKeyAlgorithm) refl
by_each_zone q told proof.Bogus o each = each (Bogus UnknownKeyAlgorithm) refl
by_each_zone q told proof.Indeterminate o each = each (Bogus UnknownKeyAlgorithm) refl

pub zone_outcome : (q : Question) (told : Told) (zone : ZoneVerdict)
    → outcome_by_mark q told (unsigned_mark zone).mark ≡ outcome_by_zone q told zone
zone_outcome q told (Signed ds) = refl
zone_outcome q told (Insecure kind) = refl
zone_outcome q told (Bogus kind) = refl

pub zone_unsigned : (placed : PlacedSet) (zone : ZoneVerdict)
    → (unsigned_with placed (unsigned_mark zone).mark).judged ≡ unsigned_by placed zone
unfolding unsigned_by
zone_unsigned placed (Signed ds) = refl
zone_unsigned placed (Insecure kind) = refl
zone_unsigned placed (Bogus kind) = refl
