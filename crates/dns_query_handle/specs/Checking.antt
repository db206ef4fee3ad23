-- The CD bit of a request (RFC 4035, 3.2.2).
use Rattle.std.specs.Prelude.{Bool}
use Rattle.dns_handle.specs.Requests.{RequestValue}

-- the same request with this CD bit
abbrev pub with_cd : Bool → RequestValue → RequestValue
with_cd cd request = record request { message = record request.message { checking_disabled = cd } }
