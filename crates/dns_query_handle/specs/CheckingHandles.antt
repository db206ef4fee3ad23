-- What contracts see of a handle that gives each request its CD bit (RFC 4035, 3.2.2).
use Rattle.std.specs.Prelude.{ℕ, ◌≡◌, Bool, Option}
use Rattle.dns_model.specs.Records.{Question}
use Rattle.dns_handle.specs.Errors.{Reply}
use Rattle.dns_handle.specs.Requests.{RequestValue}
use Rattle.dns_handle.specs.declared.handle.DnsHandle as handle
use Rattle.dns_query_handle.specs.Checking.{with_cd}
use Rattle.dns_query_handle.specs.declared.checking_handle.CheckingHandle.{CheckingHandle}

-- the handle that is asked
abbrev pub inner_of : {H : Type 0} → CheckingHandle H → H
inner_of checking = checking.handle

-- the CD bit of its requests
abbrev pub is_disabled_by : {H : Type 0} → CheckingHandle H → Bool
is_disabled_by checking = checking.is_disabled

-- a send of which the question alone is told
pub record ChecksQuestion {H : Type 0} (meanings : handle.Ghosts H) (old : CheckingHandle H) (q : Option Question)
    (new : CheckingHandle H) (reply : Reply) : Type 0 where
  pub sent : meanings.sent (inner_of old) q (inner_of new) reply
  pub kept : is_disabled_by new ≡ is_disabled_by old

-- the request was sent with the handle's CD bit, and else as it was
pub record ChecksRequest {H : Type 0} (meanings : handle.Ghosts H) (old : CheckingHandle H) (request : RequestValue) (now : ℕ)
    (new : CheckingHandle H) (reply : Reply) : Type 0 where
  pub requested : meanings.requested (inner_of old) (with_cd (is_disabled_by old) request) now (inner_of new) reply
  pub kept : is_disabled_by new ≡ is_disabled_by old
