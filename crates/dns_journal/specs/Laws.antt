-- The law of journals: each that can be is a history of the multiplexer, of which the multiplexer's own laws hold.
use Rattle.std.specs.Prelude.{List, []}
use Rattle.dns_multiplexer.specs.Machine.{Settings}
use Rattle.dns_multiplexer.specs.Runs.{IsPlayed, IsToldBy}
use Rattle.dns_journal.specs.Entries.{Entry}
use Rattle.dns_journal.specs.Histories.{IsLegal, history, state_after}

-- its events are a history that can be, and the state is what that history says
pub record IsHistory (about : Settings) (past : List Entry) : Type 0 where
  pub played : IsPlayed about [] (history about past)
  pub told : IsToldBy about [] (history about past) (state_after about past)

abbrev pub JournalsAreHistories : Type 0
JournalsAreHistories = (about : Settings) (past : List Entry) → IsLegal about past → IsHistory about past
