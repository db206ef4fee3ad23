-- Which keys are trusted after the sightings of a text, and the lines that tell them (RFC 5011, 2).
use Rattle.std.specs.Prelude.{ℕ, ◌%◌, Bool, true, false, not, List, [], ◌∷◌, ◌++◌, drop, map, reverse, codes, Option, None, Some, if◌then◌else◌}
use Rattle.std.specs.Borrow.{Bor}
use Rattle.std.specs.List.{filter, filter_map, flat_map, list_any}
use Rattle.std.specs.Option.{option_map_or}
use Rattle.std.specs.Result.{result_ok}
use Rattle.dns_model.specs.Keys.{VerifierAnswers, bytes_eq}
use Rattle.dns_model.specs.Names.{Labels}
use Rattle.dns_model.specs.OptionSteps.{◌>>=◌}
use Rattle.dns_message.specs.MessageAt.{message_at}
use Rattle.dns_text.specs.Words.{octets_word}
use Rattle.dns_anchor_roll.specs.FollowedKeys.{key_bytes, key_in}
use Rattle.dns_anchor_roll.specs.Sightings.{SightingValue, sighting_of}
use Rattle.dns_anchor_roll.specs.Trust.{Start, trusted}
use Rattle.dns_anchor_roll.specs.After.{starting}
use Rattle.dns_anchor_roll.specs.declared.states.KeyState.{KeyState}
use Rattle.dns_anchor_roll.specs.declared.states.KeyState.TheVariants.{Pending, Valid, Missing, Revoked, Removed}
use Rattle.dns_roll.specs.RollValue.{RollValue, SightValue}

-- what a message shows of the keys of a zone; bytes that are no message show nothing
abbrev pub sighting_in : Labels → SightValue → Option SightingValue
sighting_in zone sight = result_ok (message_at sight.bytes) >>= λ message. sighting_of zone sight.moment message

-- the sightings of a text, in the order of time
abbrev pub sightings_in : Labels → List SightValue → List SightingValue
sightings_in zone sights = filter_map (sighting_in zone) sights

-- the rdatas of the records of a sighting
abbrev pub rdatas_in : SightingValue → List (List ℕ)
rdatas_in s = map (λ r. r.rdata) s.set.records

-- the rdatas that a text names: those that are given, and those of its sightings, in their order
abbrev pub named_rdatas : List (List ℕ) → List SightingValue → List (List ℕ)
named_rdatas given sightings = given ++ flat_map rdatas_in sightings

-- an rdata is a key that counts, and is trusted
abbrev pub is_trusted_key : (List ℕ → Bool) → List ℕ → Bool
is_trusted_key is_trusted rdata = option_map_or (λ text. is_trusted (key_bytes text)) (key_in rdata) false

-- two rdatas are one key: they differ in nothing behind flags and protocol (RFC 4034, 2.1)
abbrev pub is_same_key : List ℕ → List ℕ → Bool
is_same_key rdata other = bytes_eq (drop 3 rdata) (drop 3 other)

-- an rdata is the key of none of these
abbrev pub is_new_key : List (List ℕ) → List ℕ → Bool
is_new_key earlier rdata = not (list_any (is_same_key rdata) earlier)

-- each key by the rdata that is the first of it, where others come earlier
unfoldable pub first_rdatas : List (List ℕ) → List (List ℕ) → List (List ℕ)
first_rdatas earlier [] = []
first_rdatas earlier (rdata ∷ rest) =
    if is_new_key earlier rdata then rdata ∷ first_rdatas (earlier ++ rdata ∷ []) rest
    else first_rdatas (earlier ++ rdata ∷ []) rest

-- the trusted keys among some rdatas, each by its first
abbrev pub first_trusted : (List ℕ → Bool) → List (List ℕ) → List (List ℕ)
first_trusted is_trusted rdatas = first_rdatas [] (filter (is_trusted_key is_trusted) rdatas)

-- the trusted keys after the sightings of a text, in the order in which it names them
abbrev pub trusted_rdatas : Start → List SightingValue → List (List ℕ)
trusted_rdatas start sightings = first_trusted (trusted start (reverse sightings)) (named_rdatas start.given sightings)

-- an rdata of a key without the flag REVOKE, which is the highest bit of the second byte (RFC 5011, 3)
abbrev pub without_revoke : List ℕ → List ℕ
without_revoke (high ∷ low ∷ rest) = high ∷ low % 128 ∷ rest
without_revoke few = few

-- `trusted KEY`
abbrev pub trusted_line : List ℕ → List ℕ
trusted_line rdata = codes "trusted " ++ (octets_word (without_revoke rdata) ++ 10 ∷ [])

-- a line for each trusted key
abbrev pub trusted_text : Start → List SightingValue → List ℕ
trusted_text start sightings = flat_map trusted_line (trusted_rdatas start sightings)

-- the same of what a text says, as a verifier answers
abbrev pub rolled_text : VerifierAnswers → RollValue → List ℕ
rolled_text answers t = trusted_text (starting answers t.zone t.keys) (sightings_in t.zone t.sights)

-- ---- for private functions of this crate only

-- a key in a state is trusted
abbrev pub tells_trust : Option KeyState → Bool
tells_trust (Some Valid) = true
tells_trust (Some Missing) = true
tells_trust (Some Pending) = false
tells_trust (Some Revoked) = false
tells_trust (Some Removed) = false
tells_trust None = false

-- the bytes that references show
abbrev pub texts_of : List (Bor (List ℕ)) → List (List ℕ)
texts_of references = map (λ b. b.now) references
