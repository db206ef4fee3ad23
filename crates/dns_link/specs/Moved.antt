-- What calls of links and sockets move, where these tell it.
use Rattle.std.specs.Prelude.{ℕ, ◌≡◌, ◌<◌, List, [], ◌∷◌, ◌++◌, length, take, ⊤, Option, None, Some, Result, Ok, Err}
use Rattle.std.specs.Io.KnownBytes.{IsAtEnd}
use Rattle.std.specs.declared.net.socket_addr.SocketAddr.{SocketAddr}
use Rattle.dns_handle.specs.declared.io_kind.IoKind.{IoKind}
use Rattle.dns_link.specs.Counts.{CountsValue, no_counts}

-- bytes, and the address that they came from
abbrev pub DatagramValue : Type 0
DatagramValue = List ℕ × SocketAddr

-- the bytes that a read put into the front of its buffer, or a write took from the front of its bytes
abbrev pub moved_by : Result ℕ IoKind → List ℕ → List ℕ
moved_by (Ok n) bytes = take n bytes
moved_by (Err kind) bytes = []

-- the datagram that came, as far as it fitted the buffer
abbrev pub received_by : Result (Option (ℕ × SocketAddr)) IoKind → List ℕ → List DatagramValue
received_by (Ok (Some came)) buffer = (take came.0 buffer, came.1) ∷ []
received_by _ buffer = []

-- no byte is left where a read of some found the end
abbrev pub EndsAt : Result ℕ IoKind → List ℕ → Option (List ℕ) → Type 0
EndsAt result buffer left = result ≡ Ok 0 → 0 < length buffer → IsAtEnd left

-- told things with others behind them
abbrev pub and_then : {X : Type 0} → Option (List X) → List X → Option (List X)
and_then None more = None
and_then (Some told) more = Some (told ++ more)

-- told things with those of another behind them; none where one of the two tells nothing
abbrev pub and_those : {X : Type 0} → Option (List X) → Option (List X) → Option (List X)
and_those told None = None
and_those told (Some more) = and_then told more

abbrev pub IsEmptyIfTold : {X : Type 0} → Option (List X) → Type 0
IsEmptyIfTold None = ⊤
IsEmptyIfTold (Some told) = told ≡ []

-- an object that a dialer made: nothing is counted yet, and it gave nothing
pub record IsNew {X : Type 0} (counts : CountsValue) (given : Option (List X)) : Type 0 where
  pub uncounted : counts ≡ no_counts
  pub unused : IsEmptyIfTold given
