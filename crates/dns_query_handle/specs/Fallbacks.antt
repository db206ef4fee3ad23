-- A request that is sent again where the response to it is truncated (RFC 1035, 4.2.1; RFC 2181, 9).
use Rattle.std.specs.Prelude.{ℕ, ◌≡◌, Bool, true, false, Ok, Err}
use Rattle.dns_handle.specs.Errors as seen
use Rattle.dns_handle.specs.Errors.{Reply}
use Rattle.dns_handle.specs.Requests.{RequestValue}
use Rattle.dns_handle.specs.declared.handle.DnsHandle as handle
use Rattle.dns_retry.specs.Retries.{SendsRequest}

-- a response of which a part was cut off
abbrev pub is_truncated : Reply → Bool
is_truncated (Ok response) = response.message.truncated
is_truncated (Err error) = false

-- how two handles are asked, one behind the other, and what that comes to
pub data AsksBoth {U T : Type 0} (firsts : handle.Ghosts U) (seconds : handle.Ghosts T) (first : U) (second : T)
    (request : RequestValue) (now : ℕ) (new_first : U) (new_second : T) (reply : Reply) : Type 0 where
  -- memory ran out before the request was sent
  Unsent : new_first ≡ first → new_second ≡ second → reply ≡ Err seen.NoMemory
      → AsksBoth firsts seconds first second request now new_first new_second reply
  -- the first handle's answer, which is whole or no response
  Whole : SendsRequest firsts request now first reply new_first → is_truncated reply ≡ false → new_second ≡ second
      → AsksBoth firsts seconds first second request now new_first new_second reply
  -- the first handle's response was truncated: the second handle's answer
  Again : (cut : Reply) → SendsRequest firsts request now first cut new_first → is_truncated cut ≡ true
      → SendsRequest seconds request now second reply new_second
      → AsksBoth firsts seconds first second request now new_first new_second reply
