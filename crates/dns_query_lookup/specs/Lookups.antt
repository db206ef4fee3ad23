-- A lookup over a handle that notes, by keys that are trusted (RFC 4035, 4.3 and 5). Signatures are computed.
use Rattle.std.specs.Prelude.{◌≡◌, List}
use Rattle.dns_model.specs.Keys.{AnchorValue, anchored}
use Rattle.dns_signatures.specs.Signatures.{all_used}
use Rattle.dns_signatures.specs.contracts.verifier.ArithmeticVerifier.TheImpl as computing
use Rattle.dns_signatures.specs.declared.verifier.Arithmetic.{Arithmetic}
use Rattle.dns_handle.specs.declared.handle.DnsHandle as handle
use Rattle.dns_asking.specs.Lookups.{LooksUp}
use Rattle.dns_asking.specs.declared.inquiry.Inquiry.{Inquiry}
use Rattle.dns_anchor_keys.specs.Trusting.{TrustedValue}
use Rattle.dns_query_handle.specs.NotingHandles.{notes_of}
use Rattle.dns_query_handle.specs.declared.noting_handle.NotingHandle.{NotingHandle}
use Rattle.dns_query_lookup.specs.CallValues.{CallValue}
use Rattle.dns_query_lookup.specs.LookedValues.{LookedValue}

-- what a call asks, by a set of keys
pub record IsInquiryOf (anchors : List AnchorValue) (call : CallValue) (inquiry : Inquiry Arithmetic) : Type 0 where
  pub query : inquiry.query ≡ call.query
  pub depth : inquiry.depth ≡ call.depth
  pub anchors_in : inquiry.anchors ≡ anchors
  pub verifier : inquiry.verifier ≡ all_used
  pub moment : inquiry.moment ≡ call.moment

-- the lookup was made over this handle, by a set that trusts just these keys, and its queries are those that the handle noted since
pub record IsLookedUpBy {H T : Type 0} (meanings : handle.Ghosts (NotingHandle H T)) (call : CallValue) (trusted : TrustedValue)
    (old : NotingHandle H T) (looked : LookedValue) : Type 0 where
  pub kept : looked.trusted ≡ trusted
  pub trusts : anchored looked.anchors ≡ anchored trusted.anchors
  pub inquiry : Inquiry Arithmetic
  pub is : IsInquiryOf looked.anchors call inquiry
  pub new : NotingHandle H T
  pub looks : LooksUp meanings computing.ghosts inquiry old new looked.reply
  pub noted : looked.notes ≡ notes_of new
