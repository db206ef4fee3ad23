-- What a cache keeps of a set that was judged (RFC 4035, 4.5 and 4.7).
use Rattle.std.specs.Prelude.{ℕ, Bool, not, ◌||◌, nat_lt, List, Option, None, Result, Ok, Err, is_some}
use Rattle.std.specs.List.{filter}
use Rattle.dns_model.specs.declared.proof.Proof.{Proof}
use Rattle.dns_model.specs.SoundAnswers.{ChainValue, is_secure}
use Rattle.dns_rules.specs.ProofErrors.{RrsetProofValue, ProofErrorValue}
use Rattle.dns_rules.specs.CacheKeys.{CacheKeyValue}

-- what is found of a set, or why it isn't Secure
abbrev pub Found : Type 0
Found = Result RrsetProofValue ProofErrorValue

pub record EntryValue : Type 0 where
  pub key : CacheKeyValue
  -- the first second at which it is no longer given
  pub expires : ℕ
  pub found : Found
  pub chain : Option ChainValue

abbrev pub mark_of : Found → Proof
mark_of (Ok proof) = proof.proof
mark_of (Err error) = error.proof

-- the place of the signature that decided; none decided where there is an error
abbrev pub sig_of : Found → Option ℕ
sig_of (Ok proof) = proof.rrsig_index
sig_of (Err error) = None

-- a mark Secure is no error's, and has its chain
abbrev pub is_backed : Found → Option ChainValue → Bool
is_backed (Ok proof) chain = not (is_secure proof.proof) || is_some chain
is_backed (Err error) chain = not (is_secure error.proof)

-- its time isn't up
abbrev pub is_live : ℕ → EntryValue → Bool
is_live now entry = nat_lt now entry.expires

-- those of some entries that may still be given at a moment
abbrev pub live : ℕ → List EntryValue → List EntryValue
live now entries = filter (is_live now) entries
