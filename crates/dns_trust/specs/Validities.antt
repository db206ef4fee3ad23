-- Whether a signature fits, as the definition's value (RFC 4035, 5.3.1).
use Rattle.dns_rules.specs.Validity as validity
use Rattle.dns_trust.specs.declared.validity.RrsigValidity.{RrsigValidity}
use Rattle.dns_trust.specs.declared.validity.RrsigValidity.TheVariants.{ValidRrsig, ExpiredRrsig, WrongDnskey, WrongRrsig}

abbrev pub validity_of : RrsigValidity → validity.Validity
validity_of ValidRrsig = validity.ValidRrsig
validity_of ExpiredRrsig = validity.ExpiredRrsig
validity_of WrongDnskey = validity.WrongDnskey
validity_of WrongRrsig = validity.WrongRrsig
