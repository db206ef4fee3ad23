-- The questions that a trail could put to a verifier (RFC 4035, 5.3.1 and 5.3.3): each signature that was tried, with each key by
-- which it could be good, whatever the verifier says, and whatever mark the key has.
use Rattle.std.specs.Prelude.{Bool, not, ◌==◌, ◌&&◌, List, [], ◌∷◌, ◌++◌, take, Option, None, Some, slice_get, if◌then◌else◌}
use Rattle.std.specs.Option.{option_map_or}
use Rattle.std.specs.List.{filter, filter_map, flat_map, list_any, zip}
use Rattle.dns_model.specs.declared.trail.AskRef.{AskRef}
use Rattle.dns_model.specs.declared.trail.AskRef.TheVariants.{Step, TooDeep, TooMany}
use Rattle.dns_model.specs.Chains.{Judge, rdatas_of}
use Rattle.dns_model.specs.Keys.{AcceptedSignatureValue, usable_key}
use Rattle.dns_model.specs.OptionSteps.{◌>>=◌}
use Rattle.dns_model.specs.Records.{Rr, RrSet, Question}
use Rattle.dns_model.specs.RecordViews.{rrsig_of, dnskey_of}
use Rattle.dns_model.specs.Signing.{signed_bytes}
use Rattle.dns_model.specs.SoundAnswers.{PlacedSet}
use Rattle.dns_model.specs.Trails.{AskedValue, JudgedSetValue}
use Rattle.dns_model.specs.Types.{type_dnskey}
use Rattle.dns_model.specs.Views.{RrsigValue, DnskeyValue}
use Rattle.dns_evidence.specs.Listing.{is_entry}
use Rattle.dns_rules.specs.Asking.{judged_part}
use Rattle.dns_rules.specs.Derivation.{told_in}
use Rattle.dns_rules.specs.Marks.{most_signatures, counted_keys, is_skipped, may_be_signed}
use Rattle.dns_rules.specs.Validity.{validity, is_valid}

-- what a verifier is asked of a signature and a key as they are read
abbrev pub asked_of : RrSet → RrsigValue → DnskeyValue → AcceptedSignatureValue
asked_of set sig key = record {
  algorithm = sig.algorithm;
  key = key.key;
  bytes = signed_bytes set.owner set.rtype set.class (rdatas_of set.records) sig;
  signature = sig.signature;
}

-- all tests of a signature and a key but the verifier's pass, by the record of each and by what that says
abbrev pub passes : Judge → RrSet → Rr → RrsigValue → Rr → DnskeyValue → Bool
passes j set r sig key text =
    is_valid (validity j.is_timely set r key) && (may_be_signed set sig && usable_key j.answers text)

-- the question of a signature and a key as they are read, where all tests but the verifier's pass
abbrev pub question_by : Judge → RrSet → Rr → Option RrsigValue → Rr → Option DnskeyValue → Option AcceptedSignatureValue
question_by j set r read key text = do
  sig ← read
  key_text ← text
  if passes j set r sig key key_text then Some (asked_of set sig key_text) else None

-- the question of a signature (third) of a set with a key (fourth), where there is one
unfoldable pub question_of : Judge → RrSet → Rr → Rr → Option AcceptedSignatureValue
question_of j set r key = question_by j set r (rrsig_of r) key (dnskey_of key)

-- a signature with each of some keys, in order
abbrev pub with_keys : Judge → RrSet → Rr → List Rr → List AcceptedSignatureValue
with_keys j set r keys = filter_map (question_of j set r) keys

-- a key set: each of its first eight signatures with each key of its own
abbrev pub of_key_set : Judge → RrSet → List AcceptedSignatureValue
of_key_set j set = flat_map (λ r. with_keys j set r set.records) (take most_signatures set.signatures)

-- the answer section that a step told, whatever its ending; an ask that wasn't made has none
abbrev pub told_to : List AskedValue → AskRef → List Rr
told_to trail (Step n) =
    option_map_or (λ step. option_map_or (λ told. told.answers) (told_in step.reply) []) (slice_get trail n) []
told_to trail TooDeep = []
told_to trail TooMany = []

-- the counted keys of a signature's signer among these records
abbrev pub keys_for : Rr → List Rr → List Rr
keys_for r records = option_map_or (λ sig. counted_keys sig.signer records) (rrsig_of r) []

-- the signatures that asked, in order
abbrev pub asking : Question → RrSet → List Rr → List Rr
asking q set signatures = filter (λ r. not (is_skipped q set r)) signatures

-- a signature with the keys that its ask was told
abbrev pub of_asking : Judge → List AskedValue → RrSet → Rr × AskRef → List AcceptedSignatureValue
of_asking j trail set p = with_keys j set p.0 (keys_for p.0 (told_to trail p.1))

-- another set: each signature that asked, in order, with the keys that its own ask was told
unfoldable pub of_signatures : Judge → List AskedValue → Question → RrSet → List Rr → List AskRef → List AcceptedSignatureValue
of_signatures j trail q set signatures asks = flat_map (of_asking j trail set) (zip (asking q set signatures) asks)

-- a set of a step, with the asks of its entry
abbrev pub of_set : Judge → List AskedValue → Question → RrSet → List AskRef → List AcceptedSignatureValue
of_set j trail q set asks =
    if set.rtype == type_dnskey then of_key_set j set
    else of_signatures j trail q set (take most_signatures set.signatures) asks

-- sets with their entries, as long as there are both
abbrev pub of_sets : Judge → List AskedValue → Question → List PlacedSet → List JudgedSetValue → List AcceptedSignatureValue
of_sets j trail q placed entries =
    flat_map (λ (p : PlacedSet × JudgedSetValue). of_set j trail q p.0.set p.1.asked) (zip placed entries)

-- a step: each of its sets that has an entry, in order
abbrev pub of_step : Judge → List AskedValue → AskedValue → List AcceptedSignatureValue
of_step j trail step =
    option_map_or (λ told. of_sets j trail step.query (judged_part step.depth told) step.sets) (told_in step.reply) []

-- each once, where it first stands
unfoldable pub each_once : List AcceptedSignatureValue → List AcceptedSignatureValue → List AcceptedSignatureValue
each_once earlier [] = []
each_once earlier (q ∷ qs) =
    if list_any (is_entry q) earlier then each_once earlier qs else q ∷ each_once (earlier ++ q ∷ []) qs

-- all questions of a trail, in its order, each once
abbrev pub questions : Judge → List AskedValue → List AcceptedSignatureValue
questions j trail = each_once [] (flat_map (of_step j trail) trail)
