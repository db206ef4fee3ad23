use Rattle.std.proofs.Common.{◌≡◌, List, take}
use Rattle.std.specs.List.{filter}
use Rattle.dns_anchor_roll.specs.After.{IsAfter}
use Rattle.dns_anchor_roll.specs.Sightings.{SightingValue}
use Rattle.dns_anchor_roll.specs.Trust.{Start, trusted}
use Rattle.dns_roll.specs.TrustedText.{is_trusted_key, texts_of}
use Rattle.dns_roll.proofs.trusting.trusted_of.Given as goal

-- those of the rdatas so far
abbrev pub invariant-loop-rdata : goal.invariant-loop-rdata
invariant-loop-rdata g l = (start : Start) (list : List SightingValue)
    → IsAfter g.V.Verifier.answers start list l.followed
    → texts_of l.all.items ≡ filter (is_trusted_key (trusted start list)) (take l.rdata-index (texts_of l.rdatas))
