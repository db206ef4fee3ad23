-- Seats that are served, one exchange after another (RFC 1035, 4.2).
use Rattle.std.specs.Prelude.{ℕ, zero, suc, ◌≡◌, ◌↔◌, ◌⊎◌, ◌≤◌, ◌<◌, ◌+◌, if◌then◌else◌, List, [], ◌∷◌, ◌++◌, map, length, Option, None, Some, IfSome}
use Rattle.std.specs.List.{flat_map}
use Rattle.std.specs.declared.hash.BuildHasher as build_hasher
use Rattle.std.specs.declared.hash.Hasher as hasher
use Rattle.dns_model.specs.Counts.{Rose, RoseBy, one_more}
use Rattle.dns_evidence.specs.declared.verifier.Verifier as verifier
use Rattle.dns_handle.specs.Replies.{error_of}
use Rattle.dns_handle.specs.declared.handle.DnsHandle as handle
use Rattle.dns_handle.specs.declared.io_kind.IoKind.{IoKind}
use Rattle.dns_handle.specs.declared.protocol.Protocol.{Protocol}
use Rattle.dns_cache.specs.declared.validation_cache.ValidationCache as cache
use Rattle.dns_shared_cache.specs.declared.shared_cache.SharedCache.{SharedCache}
use Rattle.dns_lookup.specs.Calls.{inner_of}
use Rattle.dns_lookup.specs.Causes.{is_upstreams}
use Rattle.dns_lookup.specs.declared.handle.DnssecDnsHandle.{DnssecDnsHandle}
use Rattle.dns_forwarded.specs.Laws.{IsSmall}
use Rattle.dns_forwarded.specs.Requests.{query_of, received_of}
use Rattle.dns_forwarded.specs.declared.outcome.Outcome.{Outcome}
use Rattle.dns_forwarded.specs.declared.outcome.Outcome.TheVariants as outcome
use Rattle.dns_respond.specs.Authentic.{ProvesAd}
use Rattle.dns_respond.specs.Responding.{Leaves, Responds}
use Rattle.dns_respond.specs.declared.exchanged.Exchanged.{Exchanged}
use Rattle.dns_ports.specs.Ports.{TellsMore}
use Rattle.dns_ports.specs.declared.port.Port as port
use Rattle.dns_seats.specs.declared.seat.Ended.{Ended}
use Rattle.dns_seats.specs.declared.seat.Ended.TheVariants as ended
use Rattle.dns_seats.specs.declared.seat.Seat.{Seat}
use Rattle.dns_seats.specs.declared.seat.Served.{Served}

-- ---- what comes and goes at a port

-- a count that rose so often
unfoldable pub raised : ℕ → ℕ → ℕ
raised zero count = count
raised (suc n) count = raised n (one_more count)

-- a reply, where there is one
abbrev pub replies_in : Option (List ℕ) → List (List ℕ)
replies_in None = []
replies_in (Some bytes) = bytes ∷ []

-- the requests and the replies of exchanges, in order
abbrev pub requests_of : List Exchanged → List (List ℕ)
requests_of es = map (λ e. e.request) es

abbrev pub replies_of : List Exchanged → List (List ℕ)
replies_of es = flat_map (λ e. replies_in e.reply) es

-- a port gave these requests and sent these replies, and said so often that no more requests come
pub record Moves {P : Type 0} (ports : port.Ghosts P) (old new : P) (requests replies : List (List ℕ)) (ends : ℕ) : Type 0 where
  pub received : TellsMore (ports.received old) requests (ports.received new)
  pub replied : TellsMore (ports.replied old) replies (ports.replied new)
  pub gots : ports.gots new ≡ raised (length requests) (ports.gots old)
  pub ends_rose : ports.ends new ≡ raised ends (ports.ends old)
  pub later : ports.faults old ≤ ports.faults new

-- ---- exchanges of a seat

-- a seat is set as another one
pub record IsSetAs {P H V K S T B : Type 0} {tests : verifier.Ghosts V} {builds : build_hasher.Ghosts S B} {hashes : hasher.Ghosts B}
    (old new : Seat P H V K S T B tests builds hashes) : Type 0 where
  pub protocol : new.protocol ≡ old.protocol
  pub depth : new.depth ≡ old.depth

-- an exchange as `respond` makes it: the reply is that of request and outcome, and the outcome that of one lookup, where there is a
-- question to look up; over UDP the reply is small, and where AD is set in it, that is proved
pub record IsExchange {H V C : Type 0} (meanings : handle.Ghosts H) (tests : verifier.Ghosts V) (caches : cache.Ghosts C)
    (old new : DnssecDnsHandle H V C) (protocol : Protocol) (depth : ℕ) (e : Exchanged) : Type 0 where
  pub responds : Responds meanings tests caches old new protocol depth e
  pub none : (e.outcome ≡ outcome.None) ↔ (query_of (received_of e.request) ≡ None)
  pub small : IfSome e.reply (IsSmall protocol (received_of e.request))
  pub authentic : ProvesAd tests old e

-- a validator answers requests one after another, each with one lookup where there is a question to look up
abbrev pub AllRespond : {H V C : Type 0} → handle.Ghosts H → verifier.Ghosts V → cache.Ghosts C → Protocol → ℕ
    → DnssecDnsHandle H V C → List Exchanged → DnssecDnsHandle H V C → Type 0
AllRespond meanings tests caches protocol depth from [] to = from ≡ to
AllRespond {H} {V} {C} meanings tests caches protocol depth from (e ∷ es) to =
    (middle : DnssecDnsHandle H V C) × IsExchange meanings tests caches from middle protocol depth e
    × AllRespond meanings tests caches protocol depth middle es to

-- a seat had as many requests as it was to have, and the reply of each was sent
pub record HadEnough {P H V K S T B : Type 0} {tests : verifier.Ghosts V} {builds : build_hasher.Ghosts S B} {hashes : hasher.Ghosts B}
    (count : ℕ) (middle : Seat P H V K S T B tests builds hashes) (sent : List Exchanged)
    (served : Served P H V K S T B tests builds hashes) : Type 0 where
  pub number : length sent ≡ count
  pub why : served.ended ≡ ended.Count
  pub seat : served.seat ≡ middle
  pub all : served.exchanges.items ≡ sent

-- an outcome that is an error which only an upstream makes
abbrev pub errors_in : Outcome → ℕ
errors_in (outcome.Failed error) = if is_upstreams (error_of error) then 1 else 0
errors_in found = 0

-- how many exchanges come to one
abbrev pub upstreams_errors : List Exchanged → ℕ
upstreams_errors [] = 0
upstreams_errors (e ∷ es) = errors_in e.outcome + upstreams_errors es

-- so many faults at least were met meanwhile by the seat's handle
abbrev pub ErrorsHaveFaults : {P H V K S T B : Type 0} {tests : verifier.Ghosts V} {builds : build_hasher.Ghosts S B} {hashes : hasher.Ghosts B}
    → handle.Ghosts H → Seat P H V K S T B tests builds hashes → Served P H V K S T B tests builds hashes → Type 0
ErrorsHaveFaults meanings old served = RoseBy (upstreams_errors served.exchanges.items)
    (meanings.faults (inner_of old.validator)) (meanings.faults (inner_of served.seat.validator))

module _ {P H V K S T B : Type 0} {builds : build_hasher.Ghosts S B} {hashes : hasher.Ghosts B}
    (ports : port.Ghosts P) (meanings : handle.Ghosts H) (tests : verifier.Ghosts V)
    (caches : cache.Ghosts (SharedCache V S T B tests builds hashes)) where
  -- a seat after these exchanges, each of whose replies was sent
  pub record Keeps (old new : Seat P H V K S T B tests builds hashes) (es : List Exchanged) : Type 0 where
    pub set : IsSetAs old new
    pub each : AllRespond meanings tests caches old.protocol old.depth old.validator es new.validator
    pub moves : Moves ports old.port new.port (requests_of es) (replies_of es) 0

  -- one exchange more, and what was sent of its reply
  pub record Answers (old new : Seat P H V K S T B tests builds hashes) (e : Exchanged) (sent : List (List ℕ)) : Type 0 where
    pub set : IsSetAs old new
    pub exchange : IsExchange meanings tests caches old.validator new.validator old.protocol old.depth e
    pub moves : Moves ports old.port new.port (e.request ∷ []) sent 0

  -- ---- the end of a seat

  -- no exchange more, and no reply: the port may have given requests, and may have said that no more come
  pub record Rests (old new : Seat P H V K S T B tests builds hashes) (lost : List (List ℕ)) (ends : ℕ) : Type 0 where
    pub set : IsSetAs old new
    pub moves : Moves ports old.port new.port lost [] ends

  -- the same, and nothing was looked up
  pub record Stays (old new : Seat P H V K S T B tests builds hashes) (ends : ℕ) : Type 0 where
    pub rests : Rests old new [] ends
    pub validator : new.validator ≡ old.validator

  -- memory ran out for a request that had come, whose question may have been looked up
  pub record Loses (old new : Seat P H V K S T B tests builds hashes) : Type 0 where
    pub request : List ℕ
    pub moment : ℕ
    pub rests : Rests old new (request ∷ []) 0
    pub left : Leaves meanings tests caches (query_of (received_of request)) old.validator new.validator old.depth moment

  -- a seat ends with no exchange more: after a None, at a fault of its port, or as memory runs out
  abbrev pub EndsBare : Ended → Seat P H V K S T B tests builds hashes → Seat P H V K S T B tests builds hashes → Type 0
  EndsBare ended.Count old new = ⊥
  EndsBare ended.Closed old new = Stays old new 1
  EndsBare (ended.Port kind) old new = Stays old new 0 × Rose (ports.faults old.port) (ports.faults new.port)
  EndsBare ended.NoMemory old new = Stays old new 0 ⊎ Loses old new

  -- a seat ends with one exchange more, whose reply was not sent: at a fault of its port
  pub record EndsUnsent (old new : Seat P H V K S T B tests builds hashes) (e : Exchanged) (why : Ended) : Type 0 where
    pub kind : IoKind
    pub bytes : List ℕ
    pub port : why ≡ ended.Port kind
    pub reply : e.reply ≡ Some bytes
    pub answers : Answers old new e []
    pub rose : Rose (ports.faults old.port) (ports.faults new.port)

  -- behind the exchanges from before there is none, or the one whose reply was not sent
  pub record StopsBare (old new : Seat P H V K S T B tests builds hashes) (before after : List Exchanged) (why : Ended) : Type 0 where
    pub bare : EndsBare why old new
    pub all : after ≡ before

  pub record StopsUnsent (old new : Seat P H V K S T B tests builds hashes) (before after : List Exchanged) (why : Ended) : Type 0 where
    pub last : Exchanged
    pub unsent : EndsUnsent old new last why
    pub all : after ≡ before ++ last ∷ []

  abbrev pub Stops : Seat P H V K S T B tests builds hashes → Seat P H V K S T B tests builds hashes → List Exchanged → List Exchanged → Ended → Type 0
  Stops old new before after why = StopsBare old new before after why ⊎ StopsUnsent old new before after why

  -- ---- a seat that was served

  -- it ended before
  pub record HadLess (count : ℕ) (middle : Seat P H V K S T B tests builds hashes) (sent : List Exchanged) (served : Served P H V K S T B tests builds hashes) : Type 0 where
    pub number : length sent < count
    pub stops : Stops middle served.seat sent served.exchanges.items served.ended

  -- a seat that was served so many requests at the most: after the exchanges whose replies were sent it had enough, or it stopped
  pub record IsServed (count : ℕ) (old : Seat P H V K S T B tests builds hashes) (served : Served P H V K S T B tests builds hashes) : Type 0 where
    pub middle : Seat P H V K S T B tests builds hashes
    pub sent : List Exchanged
    pub keeps : Keeps old middle sent
    pub ends : HadEnough count middle sent served ⊎ HadLess count middle sent served
