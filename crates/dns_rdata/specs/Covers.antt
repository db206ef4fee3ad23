-- The digest types that are supported, and a DS rdata that covers a key (RFC 4034, 5.1).
use Rattle.std.specs.Prelude.{ℕ, Bool, false, ◌==◌, List, Option, None, Some, if◌then◌else◌}
use Rattle.dns_model.specs.Names.{Labels}
use Rattle.dns_model.specs.Views.{DsValue}
use Rattle.dns_model.specs.Keys.{covers_key}
use Rattle.dns_rdata.specs.declared.digest.DigestType.{DigestType}
use Rattle.dns_rdata.specs.declared.digest.DigestType.TheVariants.{Sha1, Sha256, Sha384}

-- the digest type of a number (RFC 4034, A.2; RFC 4509, 2; RFC 6605, 2)
abbrev pub digest_type_of : ℕ → Option DigestType
digest_type_of number =
    if number == 1 then Some Sha1
    else if number == 2 then Some Sha256
    else if number == 4 then Some Sha384
    else None

-- the DS could be read, its digest type is supported, and the digest is that of owner and key
abbrev pub covers_read : Labels → List ℕ → Option DsValue → Bool
covers_read owner key None = false
covers_read owner key (Some ds) = covers_key owner key ds
