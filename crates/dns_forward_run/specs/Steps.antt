-- For private functions only: seats that were served, and what becomes of them.
use Rattle.std.specs.Prelude.{ℕ, ◌≡◌, ◌<◌, ◌≤◌, ◌++◌, ◌∷◌, [], IfSome, IsOkAnd, List, length, map, Option, None, Some, Result, Ok, Err, Vec}
use Rattle.std.specs.Io.KnownBytes.{Appends}
use Rattle.std.specs.declared.hash.BuildHasher as build_hasher
use Rattle.std.specs.declared.hash.Hasher as hasher
use Rattle.dns_evidence.specs.declared.verifier.Verifier as verifier
use Rattle.dns_model.specs.Counts.{Rose}
use Rattle.dns_ports.specs.declared.port.Port as port
use Rattle.dns_io.specs.Writing.{TakesPrefix}
use Rattle.dns_listener.specs.Listening.{ListenerCounts, PortCountsValue, TrafficValue}
use Rattle.dns_seats.specs.declared.seat.Served.{Served}
use Rattle.dns_session.specs.SessionValue.{SessionValue}
use Rattle.dns_session.specs.Stops.{NamesLine}
use Rattle.dns_forward_run.specs.Forwards.{ForwardEnds, Forwards, IsUnserved, Met, NetView}
use Rattle.dns_forward_run.specs.Lines.{line_of, lines_from, lines_status}
use Rattle.dns_forward_run.specs.Judging.{IsAnswered, Judging}
use Rattle.dns_forward_run.specs.Retired.{AreBack, IsLineOf, IsRefused, met_by}
use Rattle.dns_forward_run.specs.Settings.{carried_by}
use Rattle.dns_forward_run.specs.declared.ending.Ending.{Ending}
use Rattle.dns_forward_run.specs.declared.ending.Ending.TheVariants.{Told, Failed, NoMemory}
use Rattle.dns_forward_run.specs.declared.form.Service.{Service}
use Rattle.dns_forward_run.specs.declared.lines.SeatLine.{SeatLine}

module _ {P H V K S T B : Type 0} {tests : verifier.Ghosts V} {builds : build_hasher.Ghosts S B} {hashes : hasher.Ghosts B} where
  -- the line of a seat that was served
  abbrev pub line_by : Served P H V K S T B tests builds hashes → Option SeatLine
  line_by served = line_of (length served.exchanges.items) served.ended

  abbrev pub lines_by : List (Served P H V K S T B tests builds hashes) → List (Option SeatLine)
  lines_by all = map line_by all

  -- what the ports of such seats met
  abbrev pub served_met : port.Ghosts P → List (Served P H V K S T B tests builds hashes) → List PortCountsValue
  served_met ports all = map (λ s. met_by ports s.seat.port) all

  -- what came and went at them
  abbrev pub served_carried : port.Ghosts P → List (Served P H V K S T B tests builds hashes) → List TrafficValue
  served_carried ports all = map (λ s. carried_by ports s.seat.port) all

  -- the requests of a seat were answered, as it was judged so
  abbrev pub WasAnswered : port.Ghosts P → Judging → Served P H V K S T B tests builds hashes → Type 0
  WasAnswered ports by served = IsAnswered by (carried_by ports served.seat.port)

  -- a seat that was new has its line, if any
  abbrev pub HasLine : port.Ghosts P → ℕ → Served P H V K S T B tests builds hashes → Type 0
  HasLine ports count served = IfSome (line_by served) (λ line. IsLineOf count line (met_by ports served.seat.port))

-- lines with one more, unless that is none
abbrev pub WithLine : {Z : Type 0} {E : Type 0} → Result (Vec SeatLine Z) E → Option SeatLine → Result (Vec SeatLine Z) E → Type 0
WithLine old line (Ok lines) = IsOkAnd old (λ before. map Some lines.items ≡ map Some before.items ++ line ∷ [])
WithLine old line (Err e) = Unit {0}

-- one seat was served, whose port is back
pub record IsOneBack (count : ℕ) (lines : List SeatLine) (old new : ListenerCounts) : Type 0 where
  pub one : length lines ≡ 1
  pub back : AreBack count lines old new

-- lines as the text of a status, of so many seats whose ports are back
pub record AreTold (number count : ℕ) (old new : ListenerCounts) (status : ℕ) (text : List ℕ) : Type 0 where
  pub lines : List SeatLine
  pub seats : length lines ≡ number
  pub back : AreBack count lines old new
  pub ended : status ≡ lines_status lines
  pub spelled : text ≡ lines_from 0 lines

-- what clients come to of whom so many are waited for: lines, or a port that was refused
abbrev pub ServesClients : ℕ → ℕ → ListenerCounts → ListenerCounts → Ending → Type 0
ServesClients number count old new (Told status text) = AreTold number count old new status text.items
ServesClients number count old new Failed = IsRefused number old new
ServesClients number count old new NoMemory = Unit {0}

-- what a session comes to: a status with its text; no seat served; or want of memory
abbrev pub ServesAs : {D N : Type 0} → NetView D N → Service → Met D N → Ending → Type 0
ServesAs seen service met (Told status text) = Forwards seen service met status text.items
ServesAs seen service met Failed = IsUnserved seen service met
ServesAs seen service met NoMemory = Unit {0}

-- the same of bytes, which may be none
abbrev pub ComesTo : {D N : Type 0} → NetView D N → Service → Met D N → Result SessionValue ℕ → Ending → Type 0
ComesTo seen service met read (Told status text) = ForwardEnds seen service met read status text.items
ComesTo seen service met read Failed = IsUnserved seen service met
ComesTo seen service met read NoMemory = Unit {0}

-- the line that names a bad line, unless memory ran out
abbrev pub Refuses : ℕ → Ending → Type 0
Refuses number (Told status text) = NamesLine number status text.items
Refuses number Failed = ⊥
Refuses number NoMemory = Unit {0}

-- a fact of endings that are lines
abbrev pub WhenTold : Ending → Type 0 → Type 0
WhenTold (Told status text) Fact = Fact
WhenTold _ Fact = Unit {0}

-- lines of seats as a status with its text
abbrev pub TellsLines : {Z E : Type 0} → Result (Vec SeatLine Z) E → Ending → Type 0
TellsLines (Ok lines) (Told status text) = (status ≡ lines_status lines.items) × (text.items ≡ lines_from 0 lines.items)
TellsLines (Ok lines) Failed = ⊥
TellsLines (Ok lines) NoMemory = Unit {0}
TellsLines (Err e) (Told status text) = ⊥
TellsLines (Err e) Failed = ⊥
TellsLines (Err e) NoMemory = Unit {0}

-- a dialer is lost only for want of memory
abbrev pub IsLost : Ending → Type 0
IsLost NoMemory = Unit {0}
IsLost _ = ⊥

abbrev pub KeepsDialer : {D : Type 0} → Option D → Ending → Type 0
KeepsDialer None ending = IsLost ending
KeepsDialer (Some dial) ending = Unit {0}

-- the status of a text is none of those that have a cause outside
abbrev pub IsLow : Ending → Type 0
IsLow (Told status text) = (status < 4) × (status ≡ 2 → ⊥)
IsLow _ = Unit {0}

-- the text of an ending was written with its status
abbrev pub WroteAs : Ending → ℕ → Option (List ℕ) → Option (List ℕ) → Type 0
WroteAs (Told status text) result before now = (result ≡ status) × Appends before now text.items
WroteAs _ result before now = ⊥

-- a prefix of it was, or nothing where there is no text
abbrev pub WrotePart : {W : Type 0} → (W → Option (List ℕ)) → Ending → W → W → Type 0
WrotePart taken (Told status text) before now = TakesPrefix (taken before) (taken now) text.items
WrotePart taken _ before now = now ≡ before

-- what a call keeps that writes an ending
pub record KeepsWriting {W : Type 0} (faults : W → ℕ) (status : ℕ) (before now : W) : Type 0 where
  pub untouched : status ≡ 4 → now ≡ before
  pub most : status ≤ 6
  pub sink : status ≡ 5 → Rose (faults before) (faults now)
  pub later : faults before ≤ faults now
