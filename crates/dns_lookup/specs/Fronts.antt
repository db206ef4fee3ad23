-- Which sends a lookup makes, whatever its result: a front of a run of its validation (RFC 4035, 4.3 and 5).
use Rattle.std.specs.Prelude.{ℕ, ◌≡◌, ◌⊎◌, List, [], ◌∷◌, Some, Err}
use Rattle.dns_rules.specs.CacheEntries.{EntryValue}
use Rattle.dns_handle.specs.Errors as seen
use Rattle.dns_handle.specs.Errors.{Reply}
use Rattle.dns_handle.specs.declared.handle.DnsHandle as handle
use Rattle.dns_flow.specs.declared.asks.Ask.{Ask}
use Rattle.dns_validation.specs.Machine.{Terms, StateValue}
use Rattle.dns_validation.specs.Runs.{Sent, Run, sent_now}
use Rattle.dns_lookup.specs.Caching.{ServeFrom, EachKept}
use Rattle.dns_lookup.specs.Calls.{Call, CacheUse, Sending, Asking, Requesting}
use Rattle.dns_lookup.specs.Sends.{SendsBy}

-- a handle made one send of a run, at this moment
abbrev pub MakesSend : {H : Type 0} → handle.Ghosts H → ℕ → H → Sent → H → Type 0
MakesSend meanings now from sent to = Sending meanings sent.request (Some sent.ask.query) now from to sent.reply

-- and all of them, in order
abbrev pub MakesSends : {H : Type 0} → handle.Ghosts H → ℕ → H → List Sent → H → Type 0
MakesSends meanings now from [] to = from ≡ to
MakesSends {H} meanings now from (sent ∷ sends) to =
    (middle : H) × MakesSend meanings now from sent middle × MakesSends meanings now middle sends to

-- one send more: what the validation asks at this state, and memory ran out
pub record LosesSend {H : Type 0} (meanings : handle.Ghosts H) (t : Terms) (s : StateValue) (from to : H) (answer : Reply) : Type 0 where
  pub ask : Ask
  pub reply : Reply
  pub waits : s.pending ≡ Some ask
  pub made : MakesSend meanings t.now from (sent_now t s ask reply) to
  pub lost : answer ≡ Err seen.NoMemory

-- whatever the answer: the sends are those of a run up to some state, or these and one more, whose reply was lost to want of
-- memory. A run names each send by what was heard before it, and by what was kept before the lookup, with its request and its depth.
-- The answer is the one to which the run has come at that state, with its marks, its chains and its trail, or that memory ran out. What is
-- kept afterwards was kept before, or is of a set that one of the sends heard
pub record IsFront {H : Type 0} (meanings : handle.Ghosts H) (t : Terms) (kept : CacheUse) (old new : H) (answer : Reply) : Type 0 where
  pub cached : List EntryValue
  pub served : ServeFrom kept.before t.now cached
  pub sends : List Sent
  pub state : StateValue
  pub run : Run t cached sends state
  pub middle : H
  pub made : MakesSends meanings t.now old sends middle
  pub rest : (middle ≡ new) ⊎ LosesSend meanings t state middle new answer
  pub came : (answer ≡ Err seen.NoMemory) ⊎ (state.ended ≡ Some answer)
  pub added : EachKept t cached sends kept.before kept.after

-- the first send by the request of the terms, each other one by that of its ask
abbrev pub SendsOfTerms : {H : Type 0} → handle.Ghosts H → Terms → H → H → Type 0
SendsOfTerms meanings t old new = SendsBy (Requesting meanings t.request t.now) (Asking meanings t.options t.now) old new t.query
