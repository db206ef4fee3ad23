-- What a signature that doesn't fit is told as (RFC 4035, 5.3.1).
use Rattle.std.specs.Prelude.{ℕ, List, Option, None, Some, codes}
use Rattle.dns_rules.specs.Validity.{Validity, ValidRrsig, ExpiredRrsig, WrongDnskey, WrongRrsig}

-- the name of a validity that isn't ValidRrsig
abbrev pub misfit : Validity → Option (List ℕ)
misfit ValidRrsig = None
misfit ExpiredRrsig = Some (codes "ExpiredRrsig")
misfit WrongDnskey = Some (codes "WrongDnskey")
misfit WrongRrsig = Some (codes "WrongRrsig")
