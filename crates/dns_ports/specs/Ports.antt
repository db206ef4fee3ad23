-- Ports: requests that come and replies that go (RFC 1035, 4.2).
use Rattle.std.specs.Prelude.{ℕ, ◌≡◌, ⊤, List, [], ◌∷◌, ◌++◌, Option, None, Some, Result, Ok, Err}
use Rattle.dns_model.specs.Counts.{Rose, one_more}
use Rattle.dns_handle.specs.declared.io_kind.IoKind.{IoKind}
use Rattle.dns_ports.specs.declared.port.PortFault.{PortFault}
use Rattle.dns_ports.specs.declared.port.PortFault.TheVariants.{Io}

-- one more where a request was given
abbrev pub gots_after : ℕ → Result (Option (List ℕ)) PortFault → ℕ
gots_after count (Ok (Some request)) = one_more count
gots_after count given = count

-- one more where it was said that no more come
abbrev pub ends_after : ℕ → Result (Option (List ℕ)) PortFault → ℕ
ends_after count (Ok None) = one_more count
ends_after count given = count

-- the request that was given
abbrev pub given_by : Result (Option (List ℕ)) PortFault → List (List ℕ)
given_by (Ok (Some request)) = request ∷ []
given_by given = []

-- the reply that was sent
abbrev pub sent_by : {X : Type 0} → List ℕ → Result X IoKind → List (List ℕ)
sent_by bytes (Ok done) = bytes ∷ []
sent_by bytes (Err kind) = []

-- behind what was told before, this is told now; or nothing is told any more
abbrev pub TellsMore : Option (List (List ℕ)) → List (List ℕ) → Option (List (List ℕ)) → Type 0
TellsMore before more None = ⊤
TellsMore None more (Some now) = ⊥
TellsMore (Some before) more (Some now) = now ≡ before ++ more

-- a port fails only where it met a fault
abbrev pub ReceiveHasCause : ℕ → ℕ → Result (Option (List ℕ)) PortFault → Type 0
ReceiveHasCause before now (Err (Io kind)) = Rose before now
ReceiveHasCause before now given = Unit {0}

abbrev pub ReplyHasCause : {X : Type 0} → ℕ → ℕ → Result X IoKind → Type 0
ReplyHasCause before now (Ok done) = Unit {0}
ReplyHasCause before now (Err kind) = Rose before now
