-- Turns, one after another.
use Rattle.std.proofs.Common.{◌≡◌, ◌<◌, true, sym, subst}
use Rattle.dns_validation.specs.Machine.{Terms, StateValue, tick}
use Rattle.dns_validation.specs.Runs.{moves, Turns, Onward}
use Rattle.dns_validation.proofs.Work.{work, less_tick}

pub less_turn : (t : Terms) (m u : StateValue) → moves m ≡ true → u ≡ tick t m → work u < work m
less_turn t m u on is = subst (λ x. work x < work m) (sym is) (less_tick t m on)

pub turns_on : (t : Terms) (s m u : StateValue) → Turns t s m → moves m ≡ true → u ≡ tick t m → Turns t s u
turns_on t s m u turns on is = Onward s m u turns on is
