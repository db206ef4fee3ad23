-- A question over a handle that notes: first the zones of digests are asked for their keys, then the question is looked up by the keys
-- that trust anchors stand for (RFC 4035, 4.4 and 5; RFC 7958, 2).
use Rattle.std.specs.Prelude.{◌≡◌, [], Result, Ok, Err}
use Rattle.dns_handle.specs.declared.handle.DnsHandle as handle
use Rattle.dns_anchor_keys.specs.Trusting.{Trusts}
use Rattle.dns_anchor_keys.specs.declared.fault.AnchorsFault.{AnchorsFault}
use Rattle.dns_query_handle.specs.NotingHandles.{inner_of, notes_of, watch_of}
use Rattle.dns_query_handle.specs.declared.noting_handle.NotingHandle.{NotingHandle}
use Rattle.dns_signatures.specs.Signatures.{all_used, arithmetic_answers}
use Rattle.dns_query_lookup.specs.CallValues.{CallValue}
use Rattle.dns_query_lookup.specs.LookedValues.{LookedValue}
use Rattle.dns_query_lookup.specs.Lookups.{IsLookedUpBy}

-- the same handle without notes
pub record IsCleared {H T : Type 0} (old new : NotingHandle H T) : Type 0 where
  pub inner : inner_of new ≡ inner_of old
  pub watch : watch_of new ≡ watch_of old
  pub notes : notes_of new ≡ []

-- the question is looked up by the keys that the records of trust anchors stand for
pub record IsAnswered {H T : Type 0} (meanings : handle.Ghosts (NotingHandle H T)) (call : CallValue) (old : NotingHandle H T)
    (looked : LookedValue) : Type 0 where
  pub mid : NotingHandle H T
  pub start : NotingHandle H T
  pub trusts : Trusts meanings (arithmetic_answers all_used) call.moment call.lines old mid (Ok looked.trusted)
  pub cleared : IsCleared mid start
  pub looks : IsLookedUpBy meanings call looked.trusted start looked

-- no key is trusted: the handle answered an error for a key set, or the digests stand for none of the keys
pub record HasNoKeys {H T : Type 0} (meanings : handle.Ghosts (NotingHandle H T)) (call : CallValue) (old : NotingHandle H T)
    (why : AnchorsFault) : Type 0 where
  pub new : NotingHandle H T
  pub untrusted : Trusts meanings (arithmetic_answers all_used) call.moment call.lines old new (Err why)

abbrev pub AsksOver : {H T : Type 0} → handle.Ghosts (NotingHandle H T) → CallValue → NotingHandle H T → Result LookedValue AnchorsFault
    → Type 0
AsksOver meanings call old (Ok looked) = IsAnswered meanings call old looked
AsksOver meanings call old (Err why) = HasNoKeys meanings call old why
