-- When a request is sent again after an error, and how often (RFC 1035, 4.2.1 and 7.1: the work that a request starts is limited).
use Rattle.std.specs.Prelude.{ℕ, ◌≡◌, ◌⊎◌, ◌+◌, ◌-◌, Bool, true, false, not, ◌&&◌, nat_lt, List, [], ◌∷◌, count_by, Ok, Err, if◌then◌else◌}
use Rattle.dns_handle.specs.Errors as seen
use Rattle.dns_handle.specs.Errors.{ErrorValue, Reply, Busy, NoConnections, Dns, NoRecordsFound, DnssecBogus, NoMemory}
use Rattle.dns_handle.specs.Requests.{RequestValue, first_question}
use Rattle.dns_handle.specs.declared.handle.DnsHandle as handle

-- ---- after which reply another send is due

-- errors that another send can't mend: no connection can be made, there are no records, validation failed, memory ran out
abbrev pub is_final : ErrorValue → Bool
is_final NoConnections = true
is_final (Dns (NoRecordsFound missing)) = true
is_final (Dns DnssecBogus) = true
is_final NoMemory = true
is_final _ = false

abbrev pub is_busy : Reply → Bool
is_busy (Err Busy) = true
is_busy _ = false

-- so often at most a handle is busy in one call
abbrev pub most_busy : ℕ
most_busy = 64

-- another send may mend an error, where the handle was busy so often before
abbrev pub may_mend : ℕ → ErrorValue → Bool
may_mend busy Busy = nat_lt (busy + 1) most_busy
may_mend busy error = not (is_final error)

-- another send is due after a reply, where so many attempts are left and the handle was busy so often before
abbrev pub is_due : ℕ → ℕ → Reply → Bool
is_due left busy (Ok response) = false
is_due left busy (Err error) = nat_lt 0 left && may_mend busy error

-- what a reply leaves of the attempts: being busy costs none
abbrev pub left_after : ℕ → Reply → ℕ
left_after left reply = if is_busy reply then left else left - 1

abbrev pub busy_after : ℕ → Reply → ℕ
busy_after busy reply = if is_busy reply then busy + 1 else busy

-- ---- one send

-- a request is sent at a moment, in seconds: the handle before, the reply, the handle after
abbrev pub SendsRequest : {H : Type 0} → handle.Ghosts H → RequestValue → ℕ → H → Reply → H → Type 0
SendsRequest meanings request now old reply new =
    meanings.sent old (first_question request) new reply × meanings.requested old request now new reply

-- a send, or want of memory before it
abbrev pub MaySend : {H : Type 0} → (H → Reply → H → Type 0) → H → Reply → H → Type 0
MaySend one old reply new = one old reply new ⊎ ((reply ≡ Err seen.NoMemory) × (new ≡ old))

-- ---- the sends of one call

-- of replies, how many cost an attempt and how many were busy
abbrev pub cost : List Reply → ℕ
cost replies = count_by (λ reply. not (is_busy reply)) replies

abbrev pub times_busy : List Reply → ℕ
times_busy replies = count_by is_busy replies

-- sends one after another, by their replies, the last one first: after each of them another send is due
unfoldable pub Tried : {H : Type 0} → (H → Reply → H → Type 0) → ℕ → H → List Reply → H → Type 0
Tried one attempts from [] to = to ≡ from
Tried {H} one attempts from (reply ∷ before) to = (mid : H) × Tried one attempts from before mid × one mid reply to
    × (is_due (attempts - cost before) (times_busy before) reply ≡ true)

-- a call with so many attempts: sends after which another one is due, and one more, after which none is; its reply is answered
pub record IsRetried {H : Type 0} (one : H → Reply → H → Type 0) (attempts : ℕ) (old new : H) (reply : Reply) : Type 0 where
  pub again : List Reply
  pub last : H
  pub tried : Tried one attempts old again last
  pub sent : MaySend one last reply new
  pub over : is_due (attempts - cost again) (times_busy again) reply ≡ false
