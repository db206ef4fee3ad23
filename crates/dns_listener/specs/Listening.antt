-- Where ports come from and go back to, and what is counted of them (RFC 1035, 4.2).
use Rattle.std.specs.Prelude.{ℕ, ◌≡◌, ⊤, List, [], ◌++◌, Option, None, Some, Result, Ok, Err, IfSome}
use Rattle.dns_model.specs.Counts.{one_more}
use Rattle.dns_handle.specs.declared.io_kind.IoKind.{IoKind}
use Rattle.dns_link.specs.Counts.{sum_counted}
use Rattle.dns_ports.specs.Ports.{ends_after, gots_after}
use Rattle.dns_ports.specs.declared.port.PortFault.{PortFault}
use Rattle.dns_ports.specs.declared.port.PortFault.TheVariants.{Io}

-- what a listener met; each count stops at the greatest 64-bit number
pub record ListenerCounts : Type 0 where
  -- its own calls that gave no port
  pub faults : ℕ
  -- the faults, the requests and the ends of the ports that it has back
  pub broken : ℕ
  pub gots : ℕ
  pub ends : ℕ

abbrev pub nothing_listened : ListenerCounts
nothing_listened = record { faults = 0; broken = 0; gots = 0; ends = 0 }

-- a call that was to give a port
abbrev pub after_listening : {X : Type 0} → Result X IoKind → ListenerCounts → ListenerCounts
after_listening (Ok port) counts = counts
after_listening (Err kind) counts = record counts { faults = one_more counts.faults }

-- what a port met: faults, requests that it gave, and how often it said that no more come
pub record PortCountsValue : Type 0 where
  pub faults : ℕ
  pub gots : ℕ
  pub ends : ℕ

abbrev pub met : ℕ → ℕ → ℕ → PortCountsValue
met faults gots ends = record { faults = faults; gots = gots; ends = ends }

abbrev pub nothing_met : PortCountsValue
nothing_met = record { faults = 0; gots = 0; ends = 0 }

-- a port that is back
abbrev pub with_port : ListenerCounts → PortCountsValue → ListenerCounts
with_port counts port = record {
  faults = counts.faults;
  broken = sum_counted counts.broken port.faults;
  gots = sum_counted counts.gots port.gots;
  ends = sum_counted counts.ends port.ends;
}

-- what a call of a port adds to its counts
abbrev pub faults_received : ℕ → Result (Option (List ℕ)) PortFault → ℕ
faults_received count (Err (Io kind)) = one_more count
faults_received count given = count

abbrev pub after_receiving : Result (Option (List ℕ)) PortFault → PortCountsValue → PortCountsValue
after_receiving given counts = record {
  faults = faults_received counts.faults given;
  gots = gots_after counts.gots given;
  ends = ends_after counts.ends given;
}

abbrev pub after_replying : {X : Type 0} → Result X IoKind → PortCountsValue → PortCountsValue
after_replying (Ok done) counts = counts
after_replying (Err kind) counts = record counts { faults = one_more counts.faults }

-- ---- what ports tell

-- the requests that a port gave and the replies that it sent, where it tells them
pub record TrafficValue : Type 0 where
  pub received : Option (List (List ℕ))
  pub replied : Option (List (List ℕ))

abbrev pub traffic : Option (List (List ℕ)) → Option (List (List ℕ)) → TrafficValue
traffic received replied = record { received = received; replied = replied }

-- a port that was just made gave no request and sent no reply
pub record IsSilent (port : TrafficValue) : Type 0 where
  pub received : IfSome port.received (λ requests. requests ≡ [])
  pub replied : IfSome port.replied (λ replies. replies ≡ [])

-- behind the ports that were told before, these are told now; or nothing is told any more
abbrev pub TellsPorts : Option (List TrafficValue) → List TrafficValue → Option (List TrafficValue) → Type 0
TellsPorts before more None = ⊤
TellsPorts None more (Some now) = ⊥
TellsPorts (Some before) more (Some now) = now ≡ before ++ more
