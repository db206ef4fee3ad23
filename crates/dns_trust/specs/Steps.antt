-- For the calls of this crate, and for no promise of a check or a lookup: how far a DNSKEY set is judged by anchors
-- alone (RFC 4035, 5.2).
use Rattle.std.specs.Prelude.{◌≡◌, true, false}
use Rattle.dns_model.specs.Chains.{Judge}
use Rattle.dns_model.specs.SoundAnswers.{PlacedSet}
use Rattle.dns_rules.specs.KeySets.{needs_ds}
use Rattle.dns_rules.specs.ChainedSets.{chained_keys}
use Rattle.dns_trust.specs.declared.key_sets.KeysStep.{KeysStep}
use Rattle.dns_trust.specs.declared.key_sets.KeysStep.TheVariants.{Done, NeedsDs}

-- it is judged, or the DS set of its owner is needed
abbrev pub IsKeysStep : Judge → PlacedSet → KeysStep → Type 0
IsKeysStep j placed (Done c) = (needs_ds j placed.set ≡ false) × (c ≡ chained_keys j placed)
IsKeysStep j placed (NeedsDs p) = (needs_ds j placed.set ≡ true) × (p ≡ placed)
