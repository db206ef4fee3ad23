-- What a validation gives out last to be kept: what its last step found of the last of its sets of which it found anything (RFC 4035,
-- 4.5 and 4.7).
use Rattle.std.specs.Prelude.{◌≡◌, Bool, true, not, ◌&&◌, ◌||◌, is_some, List, [], ◌∷◌, ◌++◌, Option, Some, slice_get, reverse}
use Rattle.std.specs.List.{list_any, filter, zip}
use Rattle.dns_model.specs.Records.{Question}
use Rattle.dns_model.specs.SoundAnswers.{PlacedSet, is_secure, told_by}
use Rattle.dns_model.specs.Trails.{AskedValue, JudgedSetValue}
use Rattle.dns_rules.specs.Asking.{judged_part}
use Rattle.dns_rules.specs.CacheEntries.{EntryValue, mark_of, sig_of}
use Rattle.dns_rules.specs.CacheKeys.{key_of}
use Rattle.dns_rules.specs.Serving.{still_holds}
use Rattle.dns_cache.specs.Expiry.{expires_at}
use Rattle.dns_handle.specs.Errors.{Reply}
use Rattle.dns_flow.specs.CauseRows.{ask_failed, is_by_table}
use Rattle.dns_validation.specs.Machine.{Terms}
use Rattle.dns_validation.specs.Steps.{Findings, judged_answer}

-- the rules judged the set: it is Secure, or a signature decided, or none of its asks failed
abbrev pub is_found : List AskedValue → JudgedSetValue → Bool
is_found trail set = is_by_table set.origin && (is_secure set.mark || (is_some set.sig || not (list_any (ask_failed trail) set.asked)))

-- the last of a step's sets for which that is so
abbrev pub last_found : List AskedValue → List PlacedSet → List JudgedSetValue → Option (PlacedSet × JudgedSetValue)
last_found trail placed sets = slice_get (reverse (filter (λ p. is_found trail p.1) (zip placed sets))) 0

-- an entry says what was found of a set in the answer to a question, holds of it, and expires as a new one
pub record IsOfSet (t : Terms) (q : Question) (placed : PlacedSet) (set : JudgedSetValue) (e : EntryValue) : Type 0 where
  pub key : e.key ≡ key_of q placed.set
  pub mark : mark_of e.found ≡ set.mark
  pub sig : sig_of e.found ≡ set.sig
  pub expires : e.expires ≡ expires_at t.ranges t.now placed.set e.found e.chain
  pub holds : still_holds t.judge placed e ≡ true

-- the last of these entries is that of a set
pub record IsKeptLast (t : Terms) (q : Question) (placed : PlacedSet) (set : JudgedSetValue) (kept : List EntryValue) : Type 0 where
  pub front : List EntryValue
  pub entry : EntryValue
  pub last : kept ≡ front ++ entry ∷ []
  pub of : IsOfSet t q placed set entry

-- a validation came to this reply, and these are to be given out: the last of them is that of the last set of which its last step found
-- anything, by its trail
pub record LeavesLast (t : Terms) (reply : Reply) (kept : List EntryValue) : Type 0 where
  pub found : Findings
  pub is : reply ≡ judged_answer t.now t.query found
  pub last : (more : List AskedValue) (placed : PlacedSet) (set : JudgedSetValue)
      → last_found (found.steps ++ more) (judged_part 0 (told_by found.message)) found.entries ≡ Some (placed, set)
      → IsKeptLast t t.query placed set kept
