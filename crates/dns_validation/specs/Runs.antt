-- The runs of a validation: what it asked and heard, in the order of its sends, and what it comes to (RFC 4035, 4.3 and 5).
use Rattle.std.specs.Prelude.{ℕ, ◌≡◌, ◌⊎◌, Bool, true, false, not, if◌then◌else◌, ◌&&◌, List, [], ◌∷◌, ◌++◌, Option, None, Some, Err, IfSome}
use Rattle.dns_model.specs.declared.trail.MarkOrigin.TheVariants.{Cache}
use Rattle.dns_rules.specs.CacheKeys.{key_of, key_eq}
use Rattle.dns_rules.specs.CacheEntries.{EntryValue}
use Rattle.dns_cache.specs.declared.acceptance.Acceptance.{Acceptance}
use Rattle.dns_handle.specs.Errors as seen
use Rattle.dns_handle.specs.Errors.{Reply}
use Rattle.dns_handle.specs.Requests.{RequestValue}
use Rattle.dns_validation.specs.Received.{is_out_of_memory}
use Rattle.dns_handle.specs.declared.request.DnsRequestOptions.{DnsRequestOptions}
use Rattle.dns_flow.specs.declared.asks.Ask.{Ask}
use Rattle.dns_validation.specs.Requests.{request_for}
use Rattle.dns_validation.specs.Machine.{Terms, OpenValue, SeekingValue, StateValue, begin, none_open, ask_depth, tick, heard, found, given_out, origin_of, serving}

-- ---- a run

-- one of a list
abbrev pub IsIn : {X : Type 0} → X → List X → Type 0
IsIn x [] = ⊥
IsIn x (y ∷ ys) = (x ≡ y) ⊎ IsIn x ys

-- one send: the ask and its request, how deep it is, and the reply
pub record Sent : Type 0 where
  pub ask : Ask
  pub request : RequestValue
  pub depth : ℕ
  pub reply : Reply

-- the request of an ask: that of its query, but for the first one, of no step, whose request the validation was given
abbrev pub request_at : RequestValue → DnsRequestOptions → Bool → Ask → RequestValue
request_at request options first ask = if first then request else request_for options ask

abbrev pub request_in : Terms → List OpenValue → Ask → RequestValue
request_in t steps ask = request_at t.request t.options (none_open steps) ask

abbrev pub depth_in : List OpenValue → Bool → ℕ
depth_in [] judged = 0
depth_in (f ∷ outer) judged = ask_depth f.so_far.depth judged

abbrev pub sent_now : Terms → StateValue → Ask → Reply → Sent
sent_now t s ask reply = record { ask = ask; request = request_in t s.steps ask; depth = depth_in s.steps ask.judged; reply = reply }

abbrev pub is_none : {X : Type 0} → Option X → Bool
is_none None = true
is_none (Some x) = false

-- it waits neither for a reply nor for what was kept of a set, and has an open step
abbrev pub moves : StateValue → Bool
moves s = is_none s.pending && (is_none s.seeking && not (none_open s.steps))

-- what was kept and serves the set that waits is among these entries, unless this validation gave it out
abbrev pub IsAmong : Terms → List EntryValue → StateValue → SeekingValue → Option (EntryValue × Acceptance) → Type 0
IsAmong t cached s seeking given =
    IfSome (serving t.judge seeking.so_far.query seeking.placed given) (λ e.
    (key_eq (key_of seeking.so_far.query seeking.placed.set) e.key ≡ true) × (origin_of s.made e ≡ Cache → IsIn e cached))

-- from its begin on, by turns, replies, and entries that were kept, those among these that were kept before it; a reply is never want of memory
pub data Run (t : Terms) (cached : List EntryValue) : List Sent → StateValue → Type 0 where
  Begun : (s : StateValue) → s ≡ begin t.query → Run t cached [] s
  Ticked : (sends : List Sent) (s u : StateValue) → Run t cached sends s → moves s ≡ true → u ≡ tick t s → Run t cached sends u
  Heard : (sends all : List Sent) (s u : StateValue) (ask : Ask) (reply : Reply) → Run t cached sends s → s.pending ≡ Some ask
      → is_out_of_memory reply ≡ false → all ≡ sends ++ sent_now t s ask reply ∷ [] → u ≡ heard t s reply → Run t cached all u
  Sought : (sends : List Sent) (s u : StateValue) (seeking : SeekingValue) (given : Option (EntryValue × Acceptance)) → Run t cached sends s
      → s.seeking ≡ Some seeking → IsAmong t cached s seeking given → u ≡ found t given s → Run t cached sends u
  Given : (sends : List Sent) (s u : StateValue) → Run t cached sends s → u ≡ given_out s → Run t cached sends u

-- turns alone
pub data Turns (t : Terms) : StateValue → StateValue → Type 0 where
  Here : (s u : StateValue) → u ≡ s → Turns t s u
  Onward : (s m u : StateValue) → Turns t s m → moves m ≡ true → u ≡ tick t m → Turns t s u

-- ---- what it comes to

-- memory ran out: it wants nothing and gives nothing out, and answers that
pub record IsOut (s : StateValue) : Type 0 where
  pub asks : s.pending ≡ None
  pub seeks : s.seeking ≡ None
  pub keeps : s.kept ≡ []
  pub moves : moves s ≡ false
  pub ended : s.ended ≡ Some (Err seen.NoMemory)

-- it heard a reply, and turned as far as it goes
pub record HasHeard (t : Terms) (old : StateValue) (reply : Reply) (new : StateValue) : Type 0 where
  pub kept : is_out_of_memory reply ≡ false
  pub turns : Turns t (heard t old reply) new
  pub settled : moves new ≡ false

-- whatever it has heard so far, it now has heard this reply too
abbrev pub GoesOn : Terms → StateValue → Reply → StateValue → Type 0
GoesOn t old reply new =
    (cached : List EntryValue) (sends : List Sent) (ask : Ask) → old.pending ≡ Some ask → Run t cached sends old
    → Run t cached (sends ++ sent_now t old ask reply ∷ []) new

-- it took what was kept of the set that waits, and turned as far as it goes
pub record HasTaken (t : Terms) (old : StateValue) (given : Option (EntryValue × Acceptance)) (new : StateValue) : Type 0 where
  pub turns : Turns t (found t given old) new
  pub settled : moves new ≡ false

-- whatever it has heard so far, and whatever was kept before it
abbrev pub TakesOn : Terms → StateValue → Option (EntryValue × Acceptance) → StateValue → Type 0
TakesOn t old given new =
    (cached : List EntryValue) (sends : List Sent) (seeking : SeekingValue) → old.seeking ≡ Some seeking → IsAmong t cached old seeking given
    → Run t cached sends old → Run t cached sends new
