-- Keys that are trusted by the records of trust anchors (RFC 4035, 5; RFC 7958, 2).
use Rattle.std.specs.Prelude.{ℕ, ◌≡◌, ◌≢◌, List, [], None, Result, Ok, Err}
use Rattle.dns_model.specs.Keys.{AnchorValue, VerifierAnswers}
use Rattle.dns_model.specs.Records.{Rr}
use Rattle.dns_handle.specs.declared.handle.DnsHandle as handle
use Rattle.dns_master_file.specs.Reading.{LineValue}
use Rattle.dns_anchor_keys.specs.Asking.{AsksZones}
use Rattle.dns_anchor_keys.specs.Matching.{anchors_of}
use Rattle.dns_anchor_keys.specs.Zones.{zones_from}
use Rattle.dns_anchor_keys.specs.declared.fault.AnchorsFault.{AnchorsFault}
use Rattle.dns_anchor_keys.specs.declared.fault.AnchorsFault.TheVariants.{Unanswered, NoKey, NoMemory}

-- trusted keys, and the key sets by which digests were told from one another
pub record TrustedValue : Type 0 where
  pub anchors : List AnchorValue
  pub keys : List Rr

-- the keys that lines stand for, where the zones of digests have the keys that they answered with; there is one at least
abbrev pub Trusts : {H : Type 0} → handle.Ghosts H → VerifierAnswers → ℕ → List LineValue → H → H → Result TrustedValue AnchorsFault
    → Type 0
Trusts meanings answers now lines old new (Ok trusted) =
    AsksZones meanings now (zones_from None lines) old new (Ok trusted.keys)
    × (trusted.anchors ≡ anchors_of answers trusted.keys lines) × (trusted.anchors ≢ [])
Trusts meanings answers now lines old new (Err (Unanswered zone error)) =
    AsksZones meanings now (zones_from None lines) old new (Err (Unanswered zone error))
Trusts meanings answers now lines old new (Err NoKey) =
    (keys : List Rr) × AsksZones meanings now (zones_from None lines) old new (Ok keys) × (anchors_of answers keys lines ≡ [])
Trusts meanings answers now lines old new (Err NoMemory) = Unit {0}
