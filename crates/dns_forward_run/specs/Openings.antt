-- For private functions only: ports that are opened.
use Rattle.std.specs.Prelude.{ℕ, ◌≡◌, List, length, map, Result, Ok, Err, Vec}
use Rattle.dns_ports.specs.declared.port.Port as port
use Rattle.dns_listener.specs.Listening.{ListenerCounts}
use Rattle.dns_forward_run.specs.Retired.{AreNew, IsRefused, met_by}
use Rattle.dns_forward_run.specs.declared.stop.Stop.{Stop}
use Rattle.dns_forward_run.specs.declared.stop.Stop.TheVariants.{Refused, NoMemory}

-- so many ports that weren't used, while the listener counted nothing
pub record AreOpened {P : Type 0} (ports : port.Ghosts P) (most : ℕ) (old new : ListenerCounts) (all : List P) : Type 0 where
  pub number : length all ≡ most
  pub unused : AreNew (map (λ p. met_by ports p) all)
  pub counts : new ≡ old

-- all ports were opened, or one was refused, unless memory ran out
abbrev pub OpensAll : {P Z : Type 0} → port.Ghosts P → ℕ → ListenerCounts → ListenerCounts → Result (Vec P Z) Stop → Type 0
OpensAll ports most old new (Ok all) = AreOpened ports most old new all.items
OpensAll ports most old new (Err Refused) = IsRefused most old new
OpensAll ports most old new (Err NoMemory) = Unit {0}
