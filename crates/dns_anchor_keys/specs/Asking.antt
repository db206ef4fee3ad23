-- Zones are asked for their key sets (RFC 4034, 2; RFC 7958, 2).
use Rattle.std.specs.Prelude.{ℕ, ◌≡◌, Bool, true, ◌==◌, ◌&&◌, List, [], ◌∷◌, ◌++◌, Vec, if◌then◌else◌, Result, Ok, Err}
use Rattle.dns_model.specs.Names.{Labels, name_eq}
use Rattle.dns_model.specs.Records.{Question, Rr}
use Rattle.dns_model.specs.ResultSteps.{◌>>=◌}
use Rattle.dns_model.specs.SoundAnswers.{ResponseValue}
use Rattle.dns_model.specs.Types.{class_in, type_dnskey}
use Rattle.dns_handle.specs.Replies.{error_of}
use Rattle.dns_handle.specs.Requests.{RequestValue, plain_options, request_of}
use Rattle.dns_handle.specs.declared.error.NetError.{NetError}
use Rattle.dns_handle.specs.declared.handle.DnsHandle as handle
use Rattle.dns_handle.specs.declared.request.DnsRequestOptions.{DnsRequestOptions}
use Rattle.dns_retry.specs.Retries.{SendsRequest}
use Rattle.dns_anchor_keys.specs.declared.fault.AnchorsFault.{AnchorsFault}
use Rattle.dns_anchor_keys.specs.declared.fault.AnchorsFault.TheVariants as fault

-- the question for a zone's key set
abbrev pub key_question : Labels → Question
key_question zone = record { owner = zone; rtype = type_dnskey; class = class_in }

-- an OPT record without DO: signatures aren't asked for
abbrev pub key_options : DnsRequestOptions
key_options = record plain_options { use_edns = true }

abbrev pub key_request : Labels → RequestValue
key_request zone = request_of (key_question zone) key_options

-- a key of a zone
abbrev pub is_key_at : Labels → Rr → Bool
is_key_at zone r = (r.rtype == type_dnskey) && ((r.class == class_in) && name_eq r.owner zone)

-- the keys of a zone among records
unfoldable pub keys_in : Labels → List Rr → List Rr
keys_in zone [] = []
keys_in zone (r ∷ rest) = if is_key_at zone r then r ∷ keys_in zone rest else keys_in zone rest

-- keys in front of others
abbrev pub keys_before : List Rr → Result (List Rr) AnchorsFault → Result (List Rr) AnchorsFault
keys_before seen others = others >>= λ more. Ok (seen ++ more)

-- a zone is asked for its key set, and then further zones; the first error ends it
pub data AsksZone {H : Type 0} (meanings : handle.Ghosts H) (now : ℕ) (zone : Labels)
    (Rest : H → Result (List Rr) AnchorsFault → Type 0) (old new : H) (keys : Result (List Rr) AnchorsFault) : Type 0 where
  Failed : (error : NetError) → SendsRequest meanings (key_request zone) now old (Err (error_of error)) new
      → keys ≡ Err (fault.Unanswered zone error) → AsksZone meanings now zone Rest old new keys
  Heard : (response : ResponseValue) (mid : H) (later : Result (List Rr) AnchorsFault)
      → SendsRequest meanings (key_request zone) now old (Ok response) mid → Rest mid later
      → keys ≡ keys_before (keys_in zone response.message.answers) later → AsksZone meanings now zone Rest old new keys

-- zones are asked one after another: the keys that they answer with, in order
unfoldable pub AsksZones : {H : Type 0} → handle.Ghosts H → ℕ → List Labels → H → H → Result (List Rr) AnchorsFault → Type 0
AsksZones meanings now [] old new keys = (new ≡ old) × (keys ≡ Ok [])
AsksZones meanings now (zone ∷ rest) old new keys =
    AsksZone meanings now zone (λ mid later. AsksZones meanings now rest mid new later) old new keys

-- ---- for private functions of this crate only

-- what one zone was asked, and the keys that it answered with behind others
abbrev pub HearsKeys : {H : Type 0} → handle.Ghosts H → ℕ → Labels → H → List Rr → H → List Rr → Type 0
HearsKeys meanings now zone old had new keys =
    (response : ResponseValue) × SendsRequest meanings (key_request zone) now old (Ok response) new
    × (keys ≡ had ++ keys_in zone response.message.answers)

-- what it was asked, where it answered an error; or memory ran out
abbrev pub FailsZone : {H : Type 0} → handle.Ghosts H → ℕ → Labels → H → H → AnchorsFault → Type 0
FailsZone meanings now zone old new (fault.Unanswered asked error) =
    (asked ≡ zone) × SendsRequest meanings (key_request zone) now old (Err (error_of error)) new
FailsZone meanings now zone old new fault.NoKey = ⊥
FailsZone meanings now zone old new fault.NoMemory = Unit {0}

abbrev pub HearsZone : {H X : Type 0} → handle.Ghosts H → ℕ → Labels → H → List Rr → H → List Rr → Result X AnchorsFault → Type 0
HearsZone meanings now zone old had new keys (Ok x) = HearsKeys meanings now zone old had new keys
HearsZone meanings now zone old had new keys (Err error) = FailsZone meanings now zone old new error

-- the first error of zones; or memory ran out
abbrev pub FailsZones : {H : Type 0} → handle.Ghosts H → ℕ → List Labels → H → H → AnchorsFault → Type 0
FailsZones meanings now zones old new (fault.Unanswered zone error) =
    AsksZones meanings now zones old new (Err (fault.Unanswered zone error))
FailsZones meanings now zones old new fault.NoKey = ⊥
FailsZones meanings now zones old new fault.NoMemory = Unit {0}

-- the keys of all zones, or the first error
abbrev pub HearsZones : {H Z : Type 0} → handle.Ghosts H → ℕ → List Labels → H → H → Result (Vec Rr Z) AnchorsFault → Type 0
HearsZones meanings now zones old new (Ok keys) = AsksZones meanings now zones old new (Ok keys.items)
HearsZones meanings now zones old new (Err error) = FailsZones meanings now zones old new error
