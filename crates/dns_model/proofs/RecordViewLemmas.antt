-- What a record says as one of a type, its rdata says.
use Rattle.std.proofs.Common.{◌≡◌, ◌==◌, Some}
use Rattle.dns_model.specs.Types.{type_rrsig, type_dnskey}
use Rattle.dns_model.specs.Views.{RrsigValue, DnskeyValue, rrsig_in, dnskey_in}
use Rattle.dns_model.specs.Records.{Rr}
use Rattle.dns_model.specs.RecordViews.{rrsig_of, dnskey_of}
use Rattle.dns_model.proofs.TestLemmas.{if_some}

pub rrsig_read : (r : Rr) (sig : RrsigValue) → rrsig_of r ≡ Some sig → rrsig_in r.rdata ≡ Some sig
rrsig_read r sig h = (if_some (r.rtype == type_rrsig) (rrsig_in r.rdata) sig h).1

pub dnskey_read : (r : Rr) (key : DnskeyValue) → dnskey_of r ≡ Some key → dnskey_in r.rdata ≡ Some key
dnskey_read r key h = (if_some (r.rtype == type_dnskey) (dnskey_in r.rdata) key h).1
