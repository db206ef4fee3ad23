-- Ports that a listener has back, and what they met by the end of their seats (RFC 1035, 4.2).
use Rattle.std.specs.Prelude.{ℕ, ◌≡◌, ◌<◌, ◌≤◌, All, List, [], ◌∷◌, length}
use Rattle.dns_ports.specs.declared.port.Port as port
use Rattle.dns_link.specs.Counts.{sum_counted}
use Rattle.dns_model.specs.Counts.{RoseBy, one_more}
use Rattle.dns_listener.specs.Listening.{ListenerCounts, PortCountsValue, met, nothing_met, with_port}
use Rattle.dns_forward_run.specs.Lines.{broken_in, closed_in, requests_in}
use Rattle.dns_forward_run.specs.declared.lines.SeatEnd.{SeatEnd}
use Rattle.dns_forward_run.specs.declared.lines.SeatEnd.TheVariants.{Count, Closed, Port}
use Rattle.dns_forward_run.specs.declared.lines.SeatLine.{SeatLine}

-- what a port met
abbrev pub met_by : {P : Type 0} → port.Ghosts P → P → PortCountsValue
met_by ports p = met (ports.faults p) (ports.gots p) (ports.ends p)

-- none of these ports was used
abbrev pub AreNew : List PortCountsValue → Type 0
AreNew all = All (λ p. p ≡ nothing_met) all

-- a listener that has these ports back, one after another
abbrev pub with_ports : ListenerCounts → List PortCountsValue → ListenerCounts
with_ports counts [] = counts
with_ports counts (p ∷ ps) = with_ports (with_port counts p) ps

-- how a seat ended that was to have so many requests: `count` after as many; `closed` where its port said once that no more come;
-- `port` where its port met a fault
abbrev pub IsEnd : ℕ → SeatEnd → ℕ → PortCountsValue → Type 0
IsEnd count Count requests port = (requests ≡ count) × (port.ends ≡ 0)
IsEnd count Closed requests port = port.ends ≡ 1
IsEnd count Port requests port = (port.ends ≡ 0) × (0 < port.faults)

-- the line is that of a seat whose port was new and has met this
pub record IsLineOf (count : ℕ) (line : SeatLine) (port : PortCountsValue) : Type 0 where
  pub requests : port.gots ≡ line.requests
  pub bound : line.requests ≤ count
  pub ended : IsEnd count line.end line.requests port

-- the same of each line and its port
abbrev pub AreLinesOf : ℕ → List SeatLine → List PortCountsValue → Type 0
AreLinesOf count [] [] = Unit {0}
AreLinesOf count [] (p ∷ ps) = ⊥
AreLinesOf count (line ∷ lines) [] = ⊥
AreLinesOf count (line ∷ lines) (p ∷ ps) = IsLineOf count line p × AreLinesOf count lines ps

-- each seat's port is back, and what the lines say adds up to what the listener counts more: requests, and ends; faults are more by one
-- at least for each seat that ended at one. The listener itself met none
pub record AreBack (count : ℕ) (lines : List SeatLine) (old new : ListenerCounts) : Type 0 where
  pub ports : List PortCountsValue
  pub each : AreLinesOf count lines ports
  pub back : new ≡ with_ports old ports
  pub requests : new.gots ≡ sum_counted old.gots (requests_in lines)
  pub closed : new.ends ≡ sum_counted old.ends (closed_in lines)
  pub broken : RoseBy (broken_in lines) old.broken new.broken
  pub faults : new.faults ≡ old.faults

-- a call that was to give a port gave none, and was counted
abbrev pub with_refusal : ListenerCounts → ListenerCounts
with_refusal counts = record counts { faults = one_more counts.faults }

-- the listener refused one of so many ports: the ports that it had given are back, and none of them was used
pub record IsRefused (most : ℕ) (old new : ListenerCounts) : Type 0 where
  pub ports : List PortCountsValue
  pub fewer : length ports < most
  pub unused : AreNew ports
  pub counted : new ≡ with_ports (with_refusal old) ports
