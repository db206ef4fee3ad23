-- What contracts see of a listener in memory.
use Rattle.std.specs.Prelude.{◌≡◌, List, [], ◌∷◌, map, Option, None, Some, Vec, Result, Ok, Err}
use Rattle.dns_handle.specs.declared.io_kind.IoKind.{IoKind}
use Rattle.dns_handle.specs.declared.io_kind.IoKind.TheVariants.{AddrNotAvailable}
use Rattle.dns_ports.specs.declared.port.Port as port
use Rattle.dns_listener.specs.Listening.{ListenerCounts, TrafficValue}
use Rattle.dns_listener.specs.Ports.{port_in, traffic_since}
use Rattle.dns_listener.specs.declared.counted_port.CountedPort.{CountedPort}
use Rattle.dns_listener.specs.declared.list_listener.ListListener.{ListListener}

-- the ports that a listener in memory is still to give, and the refusals between them
abbrev pub listed_ports : {P : Type 0} → ListListener P → List (Result P IoKind)
listed_ports listener = listener.ports.items

abbrev pub listed_counts : {P : Type 0} → ListListener P → ListenerCounts
listed_counts listener = listener.tally

-- what came and went at the ports that are kept; nothing is told where they aren't
abbrev pub kept_told : {P Z : Type 0} → port.Ghosts P → Option (Vec (CountedPort P) Z) → Option (List TrafficValue)
kept_told ports None = None
kept_told ports (Some kept) = Some (map (traffic_since ports) kept.items)

-- the same of those that a listener in memory has back
abbrev pub listed_told : {P : Type 0} → port.Ghosts P → ListListener P → Option (List TrafficValue)
listed_told ports listener = kept_told ports listener.retired

-- a call gives the first of them
abbrev pub IsFirst : {P : Type 0} → List (Result P IoKind) → Result (CountedPort P) IoKind → Type 0
IsFirst [] (Ok port) = ⊥
IsFirst [] (Err kind) = kind ≡ AddrNotAvailable
IsFirst (Ok listed ∷ rest) (Ok port) = port_in port ≡ listed
IsFirst (Ok listed ∷ rest) (Err kind) = ⊥
IsFirst (Err listed ∷ rest) (Ok port) = ⊥
IsFirst (Err listed ∷ rest) (Err kind) = kind ≡ listed
