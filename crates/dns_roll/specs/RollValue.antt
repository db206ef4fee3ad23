-- What a text of sightings says: a zone, what a verifier accepts, the keys that are trusted at the start, and messages with their moments.
use Rattle.std.specs.Prelude.{ℕ, List}
use Rattle.dns_model.specs.Names.{Labels}
use Rattle.dns_model.specs.Keys.{AcceptedSignatureValue}

-- what came at a moment, in seconds since 1970: the bytes of a message, or bytes that are none
pub record SightValue : Type 0 where
  pub moment : ℕ
  pub bytes : List ℕ

pub record RollValue : Type 0 where
  pub zone : Labels
  pub algorithms : List ℕ
  -- as DNSKEY rdatas; those that don't count are there too
  pub keys : List (List ℕ)
  pub accepts : List AcceptedSignatureValue
  pub sights : List SightValue
