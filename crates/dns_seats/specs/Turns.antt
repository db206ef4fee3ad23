-- For private functions of this crate only: one request of a seat, and the seats that are served, each with its number.
use Rattle.std.specs.Prelude.{ℕ, ◌≡◌, List, [], ◌∷◌, ◌++◌, Option, None, Some, Result, Ok, Err}
use Rattle.std.specs.declared.hash.BuildHasher as build_hasher
use Rattle.std.specs.declared.hash.Hasher as hasher
use Rattle.dns_model.specs.Counts.{Rose}
use Rattle.dns_evidence.specs.declared.verifier.Verifier as verifier
use Rattle.dns_handle.specs.declared.handle.DnsHandle as handle
use Rattle.dns_cache.specs.declared.validation_cache.ValidationCache as cache
use Rattle.dns_shared_cache.specs.declared.shared_cache.SharedCache.{SharedCache}
use Rattle.dns_respond.specs.declared.exchanged.Exchanged.{Exchanged}
use Rattle.dns_ports.specs.declared.port.Port as port
use Rattle.dns_seats.specs.declared.seat.Ended.{Ended}
use Rattle.dns_seats.specs.declared.seat.Ended.TheVariants as ended
use Rattle.dns_seats.specs.declared.seat.Seat.{Seat}
use Rattle.dns_seats.specs.Serving.{Answers, EndsBare, IsExchange, IsSetAs, Moves, Stops, replies_in}

-- a port gave a request, or none
abbrev pub Comes : {P : Type 0} → port.Ghosts P → P → P → Result (List ℕ) Ended → Type 0
Comes ports old new (Ok request) = Moves ports old new (request ∷ []) [] 0
Comes ports old new (Err ended.Count) = ⊥
Comes ports old new (Err ended.Closed) = Moves ports old new [] [] 1
Comes ports old new (Err (ended.Port kind)) = Moves ports old new [] [] 0 × Rose (ports.faults old) (ports.faults new)
Comes ports old new (Err ended.NoMemory) = Moves ports old new [] [] 0

-- a port sent a reply, where there is one, or failed
abbrev pub Goes : {P : Type 0} → port.Ghosts P → P → P → Option (List ℕ) → Result (Unit {0}) Ended → Type 0
Goes ports old new None (Ok done) = new ≡ old
Goes ports old new None (Err why) = ⊥
Goes ports old new (Some bytes) (Ok done) = Moves ports old new [] (bytes ∷ []) 0
Goes ports old new (Some bytes) (Err (ended.Port kind)) =
    Moves ports old new [] [] 0 × Rose (ports.faults old) (ports.faults new)
Goes ports old new (Some bytes) (Err why) = ⊥

module _ {P H V K S T B : Type 0} {builds : build_hasher.Ghosts S B} {hashes : hasher.Ghosts B}
    (ports : port.Ghosts P) (meanings : handle.Ghosts H) (tests : verifier.Ghosts V)
    (caches : cache.Ghosts (SharedCache V S T B tests builds hashes)) where
  -- a request came and was answered, and its reply is still to be sent
  pub record IsAnswered (old new : Seat P H V K S T B tests builds hashes) (e : Exchanged) : Type 0 where
    pub set : IsSetAs old new
    pub exchange : IsExchange meanings tests caches old.validator new.validator old.protocol old.depth e
    pub came : Moves ports old.port new.port (e.request ∷ []) [] 0

  abbrev pub Answered : Seat P H V K S T B tests builds hashes → Seat P H V K S T B tests builds hashes → Result Exchanged Ended → Type 0
  Answered old new (Ok e) = IsAnswered old new e
  Answered old new (Err why) = EndsBare ports meanings tests caches why old new

  -- one exchange more, whose reply was sent, where it has one
  pub record GoesOn (old new : Seat P H V K S T B tests builds hashes) (before after : List Exchanged) : Type 0 where
    pub last : Exchanged
    pub answers : Answers ports meanings tests caches old new last (replies_in last.reply)
    pub all : after ≡ before ++ last ∷ []

  -- what came of the next request: an exchange more behind the others, or the seat's end
  abbrev pub Next : Seat P H V K S T B tests builds hashes → Seat P H V K S T B tests builds hashes → List Exchanged → List Exchanged → Result (Unit {0}) Ended → Type 0
  Next old new before after (Ok done) = GoesOn old new before after
  Next old new before after (Err why) = Stops ports meanings tests caches old new before after why
