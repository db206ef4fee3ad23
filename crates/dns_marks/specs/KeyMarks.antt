-- The marks of DNSKEY sets as answers (RFC 4035, 5.2).
use Rattle.std.specs.Prelude.{ℕ, Some, Result, Ok, Err}
use Rattle.dns_model.specs.Records.{RrSet}
use Rattle.dns_rules.specs.ProofErrors.{ProofErrorValue}
use Rattle.dns_rules.specs.KeySets.{KeysOutcome, SignedByAnchored, WhollyAnchored, NeedsDs, SignedByMatched, WhollyTrusted, Refused}
use Rattle.dns_marks.specs.declared.key_marks.KeysMark.{KeysMark}
use Rattle.dns_marks.specs.declared.key_marks.KeysMark.TheVariants.{NeedDs, Done}
use Rattle.dns_cache.specs.Kinds.{because}
use Rattle.dns_cache.specs.Proofs.{proved_by, proved_whole}

-- Secure by a signature with its place and the ttl that it leaves, or with none; the DS verdict is needed; or the error
abbrev pub keys_mark : ℕ → RrSet → KeysOutcome → Result KeysMark ProofErrorValue
keys_mark now set (SignedByAnchored signed) = Ok (Done (proved_by now set signed.signature (Some signed.place)))
keys_mark now set WhollyAnchored = Ok (Done proved_whole)
keys_mark now set NeedsDs = Ok NeedDs
keys_mark now set (SignedByMatched ds signed) = Ok (Done (proved_by now set signed.signature (Some signed.place)))
keys_mark now set (WhollyTrusted ds) = Ok (Done proved_whole)
keys_mark now set (Refused mark kind) = Err (because mark kind)
