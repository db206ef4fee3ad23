-- A law of what is written of an answer.
use Rattle.std.specs.Prelude.{ℕ, IfSome}
use Rattle.dns_model.specs.Records.{Question}
use Rattle.dns_model.specs.SoundAnswers.{ResponseValue}
use Rattle.dns_aggressive.specs.Denials.{decision}
use Rattle.dns_aggressive.specs.Promises.{IsDenial}
use Rattle.dns_deny.specs.DenialLines.{store_of}

-- what is written as denied holds in each zone in which the records that decide are true
abbrev pub DenialsHold : Type 0
DenialsHold = (answer : ResponseValue) (moment : ℕ) (question : Question)
    → IfSome (decision (store_of answer moment) question moment) (IsDenial (store_of answer moment) question moment)
