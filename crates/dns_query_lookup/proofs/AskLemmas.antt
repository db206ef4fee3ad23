-- What no key is trusted for, by what a call says.
use Rattle.std.proofs.Common.{◌≡◌, Err, subst}
use Rattle.dns_handle.specs.declared.handle.DnsHandle as handle
use Rattle.dns_anchor_keys.specs.Trusting.{Trusts}
use Rattle.dns_anchor_keys.specs.declared.fault.AnchorsFault.{AnchorsFault}
use Rattle.dns_query_handle.specs.declared.noting_handle.NotingHandle.{NotingHandle}
use Rattle.dns_signatures.specs.Signatures.{ArithmeticValue, all_used, arithmetic_answers}
use Rattle.dns_query_lookup.specs.Asks.{HasNoKeys}
use Rattle.dns_query_lookup.specs.CallValues.{CallValue}

pub untrusted_by : {H T : Type 0} (meanings : handle.Ghosts (NotingHandle H T)) (call seen : CallValue)
    (used : ArithmeticValue)
    (old new : NotingHandle H T) (why : AnchorsFault) → seen ≡ call → used ≡ all_used
    → Trusts meanings (arithmetic_answers used) seen.moment seen.lines old new (Err why)
    → HasNoKeys meanings call old why
untrusted_by meanings call seen used old new why view all trusts = record {
  new = new;
  untrusted = subst (λ c. Trusts meanings (arithmetic_answers all_used) c.moment c.lines old new (Err why)) view
      (subst (λ u. Trusts meanings (arithmetic_answers u) seen.moment seen.lines old new (Err why)) all trusts);
}
