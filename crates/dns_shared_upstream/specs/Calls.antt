-- What a holder of a shared exchange has called on it. Each call stands in the exchange's journal at a place, and is the holder's own
-- (RFC 7766, 6.2.1).
use Rattle.std.specs.Prelude.{ℕ, ◌≡◌, Bool, true, false, List, [], ◌∷◌, ◌++◌, reverse, take, slice_get, Some}
use Rattle.std.specs.List.{count_by}
use Rattle.turns.specs.Turns.{Held, Known, Begins, Agrees}
use Rattle.dns_multiplexer.specs.Events.{Pending, TakenValue}
use Rattle.dns_multiplexer.specs.Machine.{Settings}
use Rattle.dns_journal.specs.declared.entry.Found.{Found}
use Rattle.dns_journal.specs.Entries.{Entry, Arrive, Take}
use Rattle.dns_journal.specs.Histories.{is_close, taken_at}
use Rattle.dns_shared_exchange.specs.Tokens.{TokenValue, IsKnown}

-- between two moments these calls were made: the own calls are the earlier ones and then these. As much of the journal as before is
-- seen, or more, of the same exchange
pub record Called (calls : List (ℕ × Entry)) (before now : TokenValue) : Type 0 where
  pub line : now.line ≡ before.line
  pub own : now.known.own ≡ before.known.own ++ calls
  pub seen : Begins now.known.journal before.known.journal
  pub about : Agrees before.known.about now.known.about
  pub known : IsKnown before.known → IsKnown now.known

-- a call is one of these
pub record IsAmong (call : ℕ × Entry) (calls : List (ℕ × Entry)) : Type 0 where
  pub before : List (ℕ × Entry)
  pub behind : List (ℕ × Entry)
  pub parted : calls ≡ before ++ call ∷ behind

-- the last of these calls has this entry
pub record EndsWith (e : Entry) (calls : List (ℕ × Entry)) : Type 0 where
  pub before : List (ℕ × Entry)
  pub place : ℕ
  pub parted : calls ≡ before ++ (place, e) ∷ []

-- ---- how many

abbrev pub is_arrive : Entry → Bool
is_arrive (Arrive bytes reply) = true
is_arrive _ = false

-- the messages that these calls handed to the exchange
abbrev pub arrives_in : List (ℕ × Entry) → ℕ
arrives_in calls = count_by (λ call. is_arrive call.1) calls

-- how often these calls closed it
abbrev pub closes_in : List (ℕ × Entry) → ℕ
closes_in calls = count_by (λ call. is_close call.1) calls

-- ---- what they found

-- what stands in a journal before a place, the last entry first
abbrev pub past_at : List Entry → ℕ → List Entry
past_at journal place = reverse (take place journal)

-- one of the calls was a take of the request with a number, and gave this where it stands
pub record Gave (calls : List (ℕ × Entry)) (journal : List Entry) (number : ℕ) (taken : TakenValue) : Type 0 where
  pub place : ℕ
  pub found : Found
  pub among : IsAmong (place, Take number found) calls
  pub stands : slice_get journal place ≡ Some (Take number found)
  pub gives : taken ≡ taken_at (past_at journal place) found

-- one of the calls was a take of the request with a number, which found that nothing waits yet; no call behind it handed a message over
pub record FoundNone (calls : List (ℕ × Entry)) (journal : List Entry) (number : ℕ) : Type 0 where
  pub before : List (ℕ × Entry)
  pub behind : List (ℕ × Entry)
  pub place : ℕ
  pub found : Found
  pub parted : calls ≡ before ++ (place, Take number found) ∷ behind
  pub last : arrives_in behind ≡ 0
  pub stands : slice_get journal place ≡ Some (Take number found)
  pub gives : Pending ≡ taken_at (past_at journal place) found

-- the journal that some call found had no room for it
pub record HadNoRoom (fits : Held Settings Entry → Bool) (before now : Known Settings Entry) : Type 0 where
  pub found : Held Settings Entry
  pub about : now.about ≡ Some found.about
  pub begun : Begins found.journal before.journal
  pub seen : Begins now.journal found.journal
  pub full : fits found ≡ false
