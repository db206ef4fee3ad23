-- What a validation gives out to be kept: what its steps found of their sets (RFC 4035, 4.5 and 4.7).
use Rattle.std.specs.Prelude.{◌≡◌, Bool, true, List}
use Rattle.dns_model.specs.Records.{MessageValue}
use Rattle.dns_model.specs.SoundAnswers.{told_by}
use Rattle.dns_rules.specs.Asking.{judged_part}
use Rattle.dns_rules.specs.CacheEntries.{EntryValue}
use Rattle.dns_rules.specs.ChainedSets.{ChainedSet, stands}
use Rattle.dns_rules.specs.MarkedSets.{placed_of}
use Rattle.dns_rules.specs.ProofErrors.{ProofErrorKindValue}
use Rattle.dns_rules.specs.Serving.{has_place}
use Rattle.dns_flow.specs.Causes.{found_of}
use Rattle.dns_validation.specs.Received.{Message, received_value}
use Rattle.dns_validation.specs.Machine.{Terms, entry_by, is_kept}
use Rattle.dns_validation.specs.Runs.{IsIn, Sent}

-- an entry is what was found of a set that one of these sends heard: the set was judged, and not by an ask that failed, its chain proves it
-- where it is Secure, a signature that it names is one of the set's, and the entry has the key of the set, when it expires, and the chain
pub record IsLeft (t : Terms) (sends : List Sent) (e : EntryValue) : Type 0 where
  pub sent : Sent
  pub among : IsIn sent sends
  pub judged : sent.ask.judged ≡ true
  pub message : MessageValue
  pub empty : Bool
  pub received : received_value sent.reply ≡ Message message empty
  pub set : ChainedSet
  pub placed : IsIn (placed_of set.judged) (judged_part sent.depth (told_by message))
  pub stand : stands t.judge set ≡ true
  pub place : has_place set.judged.set set.judged.sig ≡ true
  pub cause : ProofErrorKindValue
  pub kept : is_kept (found_of t.now set.judged cause) ≡ true
  pub is : e ≡ entry_by t sent.ask.query set (found_of t.now set.judged cause)
