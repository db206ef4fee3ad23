-- For private functions only: what was met by sockets that are open, and by the dialer that has others back.
use Rattle.std.specs.Prelude.{◌≡◌, List, [], ◌∷◌, ◌++◌, length, Option, None, Some}
use Rattle.dns_link.specs.Counts.{CountsValue, no_counts}
use Rattle.dns_link.specs.Moved.{DatagramValue}
use Rattle.dns_udp.specs.Met.{DialerView, Meets, HasMet, sum_met}

-- these came to a socket, where it tells them
abbrev pub Tells : Option (List DatagramValue) → List DatagramValue → Type 0
Tells None own = Unit {0}
Tells (Some told) own = told ≡ own

-- what a socket met since it was made, and the datagrams that came to it
pub record IsHeard (counts : CountsValue) (given : Option (List DatagramValue)) (own : List DatagramValue) (met : CountsValue) : Type 0 where
  pub meets : Meets no_counts counts met
  pub told : Tells given own
  pub gots : met.gots ≡ length own

-- the same of sockets together
abbrev pub AreHeard : {G : Type 0} → (G → CountsValue) → (G → Option (List DatagramValue)) → List G → List DatagramValue → CountsValue → Type 0
AreHeard counts given [] came met = (came ≡ []) × (met ≡ no_counts)
AreHeard counts given (socket ∷ sockets) came met =
    (own : List DatagramValue) × (rest : List DatagramValue) × (own_met : CountsValue) × (rest_met : CountsValue)
    × IsHeard (counts socket) (given socket) own own_met × AreHeard counts given sockets rest rest_met
    × (came ≡ own ++ rest) × (met ≡ sum_met own_met rest_met)

-- what was met so far: by the dialer with the sockets that it has back, and by those that are open
pub record Holds {G : Type 0} (counts : G → CountsValue) (given : G → Option (List DatagramValue)) (before now : DialerView)
    (sockets : List G) (came : List DatagramValue) (met : CountsValue) : Type 0 where
  pub back : List DatagramValue
  pub waiting : List DatagramValue
  pub back_met : CountsValue
  pub open_met : CountsValue
  pub dialed : HasMet before now back back_met
  pub opened : AreHeard counts given sockets waiting open_met
  pub all : came ≡ back ++ waiting
  pub sum : met ≡ sum_met back_met open_met

-- datagrams came beside those that came before, wherever they stand among them
pub record Joins (new before after : List DatagramValue) : Type 0 where
  pub left : List DatagramValue
  pub right : List DatagramValue
  pub was : before ≡ left ++ right
  pub now : after ≡ left ++ (new ++ right)

-- sockets after a turn of one of them: what came to it stands among what came before
pub record Turned {G : Type 0} (counts : G → CountsValue) (given : G → Option (List DatagramValue)) (sockets : List G)
    (new came : List DatagramValue) (met one : CountsValue) : Type 0 where
  pub after : List DatagramValue
  pub heard : AreHeard counts given sockets after (sum_met met one)
  pub joins : Joins new came after

-- ---- steps of a call, from whatever was met before it

-- a socket is put behind those that are open, or given back
abbrev pub KeepsSocket : {G : Type 0} → (G → CountsValue) → (G → Option (List DatagramValue)) → DialerView → DialerView → List G → List G
    → G → Type 0
KeepsSocket counts given old_dial now_dial old now socket =
    (before : DialerView) → (came : List DatagramValue) → (met : CountsValue) → (own : CountsValue)
    → Holds counts given before old_dial old came met → IsHeard (counts socket) (given socket) [] own
    → Holds counts given before now_dial now came (sum_met met own)

-- one of the sockets is waited on
abbrev pub TurnsOne : {G : Type 0} → (G → CountsValue) → (G → Option (List DatagramValue)) → List G → List G → List DatagramValue
    → CountsValue → Type 0
TurnsOne counts given old now new one =
    (came : List DatagramValue) → (met : CountsValue) → AreHeard counts given old came met → Turned counts given now new came met one

-- all sockets are given back
abbrev pub GivesAllBack : {G : Type 0} → (G → CountsValue) → (G → Option (List DatagramValue)) → DialerView → DialerView → List G → Type 0
GivesAllBack counts given old_dial now_dial sockets =
    (before : DialerView) → (came : List DatagramValue) → (met : CountsValue) → Holds counts given before old_dial sockets came met
    → HasMet before now_dial came met
