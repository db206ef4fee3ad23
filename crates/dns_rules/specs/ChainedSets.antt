-- For clauses of calls between crates and for proofs, and for no promise of a lookup or of a check of a trail: judged sets with
-- their chains (RFC 4035, 5.2 and 5.3). The rules of marks don't look at chains; which key decided, and so the
-- link that is added, is found beside them.
use Rattle.std.specs.Prelude.{ℕ, ◌+◌, ◌-◌, Bool, true, List, [], ◌∷◌, ◌++◌, map, length, Option, None, Some, if◌then◌else◌}
use Rattle.std.specs.Option.{option_map, option_map_or}
use Rattle.std.specs.List.{filter, find}
use Rattle.dns_model.specs.declared.denial.Denial.{Denial}
use Rattle.dns_model.specs.Names.{Labels}
use Rattle.dns_model.specs.Views.{RrsigValue}
use Rattle.dns_model.specs.Records.{Rr, RrSet, MessageValue}
use Rattle.dns_model.specs.RecordViews.{rrsig_of}
use Rattle.dns_model.specs.Chains.{LinkValue, Judge, KeySet, Anchored, Matched, Signed, rdatas_of}
use Rattle.dns_model.specs.Trails.{AskedValue}
use Rattle.dns_model.specs.SoundAnswers.{ChainValue, ResponseValue, PlacedSet, is_secure}
use Rattle.dns_rules.specs.Validity.{is_good_by}
use Rattle.dns_rules.specs.MarkedSets.{MarkedSet}
pub use Rattle.dns_rules.specs.Serving.{names_decider, proves_set}
use Rattle.dns_rules.specs.Marks.{Verdict, Proved, Insecure, Failed, counted_keys, is_key_set_of, verdict_of, judged_by}
use Rattle.dns_rules.specs.Delegations.{ZoneVerdict, is_ds_set_of, matching_ds, zone_verdict}
use Rattle.dns_rules.specs.Unsigned.{unsigned_by}
use Rattle.dns_rules.specs.KeySets.{SignedKeys, KeysOutcome, SignedByAnchored, WhollyAnchored, SignedByMatched, WhollyTrusted, is_anchored_key, keys_outcome, keys_judged}
use Rattle.dns_rules.specs.Marking.{marked_message}

-- a judged set, and its chain where it is Secure
pub record ChainedSet : Type 0 where
  pub judged : MarkedSet
  pub chain : List LinkValue

-- without their chains
abbrev pub bare : List ChainedSet → List MarkedSet
bare sets = map (λ c. c.judged) sets

-- a Secure set has a justified chain that ends at it and names the signature that decided
abbrev pub stands : Judge → ChainedSet → Bool
stands j c =
    if is_secure c.judged.mark then proves_set j c.judged c.chain else true

-- ---- a set that isn't DNSKEY

-- the chain of a key set, and the link that a signature by one of its keys adds
abbrev pub signed_chain : RrSet → Rr → List LinkValue → Rr → List LinkValue
signed_chain set r chain key =
    chain ++ Signed set.owner set.class set.rtype (rdatas_of set.records) r.rdata (length chain - 1) key.rdata ∷ []

abbrev pub chain_by_key : RrSet → Rr → List LinkValue → Option Rr → List LinkValue
chain_by_key set r chain None = []
chain_by_key set r chain (Some key) = signed_chain set r chain key

abbrev pub chain_by_set : Judge → RrSet → Rr → Labels → Option ChainedSet → List LinkValue
chain_by_set j set r signer None = []
chain_by_set j set r signer (Some keys) =
    chain_by_key set r keys.chain (find (is_good_by j set r) (counted_keys signer keys.judged.set.records))

abbrev pub chain_by_read : Judge → RrSet → Rr → List ChainedSet → Option RrsigValue → List LinkValue
chain_by_read j set r answer None = []
chain_by_read j set r answer (Some sig) =
    chain_by_set j set r sig.signer (find (λ c. is_key_set_of set.class sig.signer c.judged) answer)

-- the chain that a signature makes from that of the key set that was asked for
abbrev pub chain_by : Judge → RrSet → Rr → Option (List ChainedSet) → List LinkValue
chain_by j set r None = []
chain_by j set r (Some answer) = chain_by_read j set r answer (rrsig_of r)

-- a verdict, with the chain by which it proves its set
pub record ChainedVerdict : Type 0 where
  pub verdict : Verdict
  pub chain : List LinkValue

abbrev pub with_chain : Verdict → List LinkValue → ChainedVerdict
with_chain Proved chain = record { verdict = Proved; chain = chain }
with_chain Insecure chain = record { verdict = Insecure; chain = [] }
with_chain Failed chain = record { verdict = Failed; chain = [] }

-- the verdict of one signature, with the sets of the answer to its ask; none where the ask failed or was refused
unfoldable pub chained_verdict : Judge → RrSet → Rr → Option (List ChainedSet) → ChainedVerdict
chained_verdict j set r answer = with_chain (verdict_of j set r (option_map bare answer)) (chain_by j set r answer)

abbrev pub bare_verdicts : List ChainedVerdict → List Verdict
bare_verdicts verdicts = map (λ v. v.verdict) verdicts

abbrev pub chain_if_proved : Verdict → List LinkValue → List LinkValue → List LinkValue
chain_if_proved Proved chain others = chain
chain_if_proved Insecure chain others = others
chain_if_proved Failed chain others = others

-- the chain of the first verdict that proves the set
abbrev pub proved_chain : List ChainedVerdict → List LinkValue
proved_chain [] = []
proved_chain (v ∷ vs) = chain_if_proved v.verdict v.chain (proved_chain vs)

-- a set that isn't DNSKEY, judged by the verdicts of its signatures
abbrev pub chained_by : PlacedSet → List ChainedVerdict → ChainedSet
chained_by placed verdicts = record { judged = judged_by placed (bare_verdicts verdicts); chain = proved_chain verdicts }

-- an unsigned set, judged by the verdict on its zone; it never is Secure
abbrev pub chained_unsigned : PlacedSet → ZoneVerdict → ChainedSet
chained_unsigned placed zone = record { judged = unsigned_by placed zone; chain = [] }

-- ---- a DNSKEY set

-- the link by which an anchored key of a set is trusted
abbrev pub anchored_link : RrSet → Rr → LinkValue
anchored_link set key = Anchored set.owner set.class key.rdata

-- the link by which a key of a set is trusted that a DS matches: the link with this number shows the DS
abbrev pub matched_link : RrSet → ℕ → Rr → Rr → LinkValue
matched_link set ds_link key ds = Matched set.owner set.class key.rdata ds_link ds.rdata

-- by the first DS that counts and matches; without one it is the link of an anchored key
abbrev pub matched_by : Judge → RrSet → ℕ → List Rr → Rr → LinkValue
matched_by j set ds_link ds key = option_map_or (matched_link set ds_link key) (matching_ds j.answers set.owner key ds) (anchored_link set key)

abbrev pub trusted_link : Judge → RrSet → ℕ → List Rr → Rr → LinkValue
trusted_link j set ds_link ds key = if is_anchored_key j set key then anchored_link set key else matched_by j set ds_link ds key

-- n, n + 1 and so on, one for each
abbrev pub numbers_from : ℕ → List (List ℕ) → List ℕ
numbers_from n [] = []
numbers_from n (key ∷ keys) = n ∷ numbers_from (n + 1) keys

-- behind other links a link for each key, and then their set
abbrev pub whole_chain : RrSet → List LinkValue → (Rr → LinkValue) → List LinkValue
whole_chain set front link =
    (front ++ map link set.records)
    ++ KeySet set.owner set.class (rdatas_of set.records) (numbers_from (length front) (rdatas_of set.records)) ∷ []

-- behind other links the link of a key, and then the set that it signed
abbrev pub self_signed_chain : RrSet → List LinkValue → LinkValue → SignedKeys → List LinkValue
self_signed_chain set front link signed =
    (front ++ link ∷ [])
    ++ Signed set.owner set.class set.rtype (rdatas_of set.records) signed.signature.rdata (length front) signed.key.rdata ∷ []

-- the chain of a key set, where `front` is that of the DS set by which it is judged
abbrev pub outcome_chain : Judge → RrSet → List LinkValue → KeysOutcome → List LinkValue
outcome_chain j set front (SignedByAnchored signed) = self_signed_chain set [] (anchored_link set signed.key) signed
outcome_chain j set front WhollyAnchored = whole_chain set [] (anchored_link set)
outcome_chain j set front (SignedByMatched ds signed) =
    self_signed_chain set front (matched_by j set (length front - 1) ds signed.key) signed
outcome_chain j set front (WhollyTrusted ds) = whole_chain set front (trusted_link j set (length front - 1) ds)
outcome_chain j set front _ = []

abbrev pub keys_chained : Judge → PlacedSet → List LinkValue → KeysOutcome → ChainedSet
keys_chained j placed front outcome = record { judged = keys_judged placed outcome; chain = outcome_chain j placed.set front outcome }

-- a DNSKEY set that asks for no DS set, with the chain by which it is Secure
unfoldable pub chained_keys : Judge → PlacedSet → ChainedSet
chained_keys j placed = keys_chained j placed [] (keys_outcome j placed.set None)

-- the chain of the DS set of a zone
abbrev pub ds_chain : ℕ → Labels → Option (List ChainedSet) → List LinkValue
ds_chain class zone None = []
ds_chain class zone (Some answer) = option_map_or (λ c. c.chain) (find (λ c. is_ds_set_of class zone c.judged) answer) []

-- a DNSKEY set that asks for the DS set of its owner, by the sets of the answer; none where the ask failed or was refused
unfoldable pub chained_by_ds : Judge → PlacedSet → Option (List ChainedSet) → ChainedSet
chained_by_ds j placed answer =
    keys_chained j placed (ds_chain placed.set.class placed.set.owner answer)
    (keys_outcome j placed.set (Some (zone_verdict j.answers placed.set.class placed.set.owner (option_map bare answer))))

-- ---- an answer

abbrev pub chain_value : ChainedSet → ChainValue
chain_value c = record { section = c.judged.section; links = c.chain }

-- the chains of the Secure sets, in order
abbrev pub chains_of : List ChainedSet → List ChainValue
chains_of sets = map chain_value (filter (λ c. is_secure c.judged.mark) sets)

-- the answer of a judged step, with the trail that led to it
abbrev pub finished : ℕ → List ChainedSet → MessageValue → Denial → List AskedValue → ResponseValue
finished now sets m denial trail = record {
  message = marked_message now (bare sets) m;
  chains = chains_of sets;
  denial = denial;
  trail = trail;
}
