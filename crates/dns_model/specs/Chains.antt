-- Chains of trust (RFC 4035, 5.2 and 5.3).
use Rattle.std.specs.Prelude.{ℕ, Bool, true, false, not, ◌==◌, ◌&&◌, ◌||◌, nat_le, List, [], ◌∷◌, ◌++◌, map, Option, None, Some, is_some, slice_get, if◌then◌else◌}
use Rattle.std.specs.List.{list_any}
use Rattle.dns_model.specs.Names.{Labels, name_eq, at_or_above, strictly_above, parent, num_labels}
use Rattle.dns_model.specs.Types.{type_ds, type_rrsig, type_nsec, type_dnskey, type_nsec3}
use Rattle.dns_model.specs.Views.{RrsigValue, DnskeyValue, rrsig_in, dnskey_in}
use Rattle.dns_model.specs.Serial.{timely}
use Rattle.dns_model.specs.Signing.{signed_bytes, key_tag_of}
use Rattle.dns_model.specs.Keys.{VerifierAnswers, AnchorValue, bytes_eq, anchored, ds_covers_key, usable_key}
use Rattle.dns_model.specs.Records.{Rr, RrSet}
use Rattle.std.specs.Cmp.Lexicographic.{pointwise}

-- one step of a chain; the numbers are those of earlier links
pub data LinkValue : Type 0 where
  Anchored : (owner : Labels) (class : ℕ) (key : List ℕ) → LinkValue
  Matched : (owner : Labels) (class : ℕ) (key : List ℕ) (ds_link : ℕ) (ds : List ℕ) → LinkValue
  KeySet : (owner : Labels) (class : ℕ) (keys : List (List ℕ)) (links : List ℕ) → LinkValue
  Signed : (owner : Labels) (class : ℕ) (rtype : ℕ) (rdatas : List (List ℕ)) (sig : List ℕ) (key_link : ℕ) (key : List ℕ) → LinkValue

-- by what a chain is judged: a verifier, which keys are trusted at the start, and when signatures count
pub record Judge : Type 0 where
  pub answers : VerifierAnswers
  pub is_anchored : Labels → List ℕ → Bool
  pub is_timely : RrsigValue → Bool

-- the judge of a verifier, trust anchors and a moment
abbrev pub judge : VerifierAnswers → List AnchorValue → ℕ → Judge
judge answers anchors now = record {
  answers = answers;
  is_anchored = anchored anchors;
  is_timely = λ sig. timely sig now;
}

-- the judge of a verifier alone: any readable key may start a chain, at any time
abbrev pub judge_alone : VerifierAnswers → Judge
judge_alone answers = record {
  answers = answers;
  is_anchored = λ owner key. is_some (dnskey_in key);
  is_timely = λ sig. true;
}

abbrev pub has_bytes : List (List ℕ) → List ℕ → Bool
has_bytes rdatas rdata = list_any (bytes_eq rdata) rdatas

-- the link shows that the owner's zone trusts this key
abbrev pub shows_key : Labels → ℕ → List ℕ → Option LinkValue → Bool
shows_key owner class key (Some (Anchored o c k)) = name_eq owner o && ((class == c) && bytes_eq key k)
shows_key owner class key (Some (Matched o c k ds_link ds)) = name_eq owner o && ((class == c) && bytes_eq key k)
shows_key owner class key _ = false

-- the link shows a DS of the owner
abbrev pub shows_ds : Labels → ℕ → List ℕ → Option LinkValue → Bool
shows_ds owner class ds (Some (Signed o c rtype rdatas sig key_link key)) =
    (rtype == type_ds) && (name_eq owner o && ((class == c) && has_bytes rdatas ds))
shows_ds owner class ds _ = false

-- the link shows a key set of the owner with this key in it
abbrev pub shows_member : Labels → ℕ → List ℕ → Option LinkValue → Bool
shows_member owner class key (Some (KeySet o c keys links)) = name_eq owner o && ((class == c) && has_bytes keys key)
shows_member owner class key (Some (Signed o c rtype rdatas sig key_link k)) =
    (rtype == type_dnskey) && (name_eq owner o && ((class == c) && has_bytes rdatas key))
shows_member owner class key _ = false

-- each key of a set is shown by the link with its number
unfoldable pub all_shown : List LinkValue → Labels → ℕ → List (List ℕ) → List ℕ → Bool
all_shown earlier owner class [] [] = true
all_shown earlier owner class (key ∷ keys) (number ∷ numbers) =
    shows_key owner class key (slice_get earlier number) && all_shown earlier owner class keys numbers
all_shown earlier owner class _ _ = false

abbrev pub is_nonempty : {X : Type 0} → List X → Bool
is_nonempty [] = false
is_nonempty (x ∷ xs) = true

-- the signer's place over the owner; a DS stands in the zone above
abbrev pub signer_fits : ℕ → Labels → Labels → Bool
signer_fits rtype signer owner = if rtype == type_ds then strictly_above signer owner else at_or_above signer owner

-- an NSEC or NSEC3 is never expanded from a wildcard: Labels counts all labels of its owner (RFC 4035, 5.3.4; RFC 5155, 3)
abbrev pub never_expanded : ℕ → ℕ → Labels → Bool
never_expanded rtype labels owner = if (rtype == type_nsec) || (rtype == type_nsec3) then labels == num_labels owner else true

-- an NSEC3 stands right below its signer (RFC 5155, 3)
abbrev pub right_below_signer : ℕ → Labels → Labels → Bool
right_below_signer rtype signer owner = if rtype == type_nsec3 then name_eq (parent owner) signer else true

-- the signature is the key's, good and timely
abbrev pub is_good : Judge → Labels → ℕ → ℕ → List (List ℕ) → RrsigValue → List ℕ → Option DnskeyValue → Bool
is_good j owner class rtype rdatas sig rdata None = false
is_good j owner class rtype rdatas sig rdata (Some key) =
    usable_key j.answers key && ((key.algorithm == sig.algorithm) && ((key_tag_of rdata == sig.key_tag) && (j.is_timely sig
    && j.answers.accepts sig.algorithm key.key (signed_bytes owner rtype class rdatas sig) sig.signature)))

-- the key comes from the link with this number
abbrev pub key_comes : List LinkValue → Labels → ℕ → ℕ → List (List ℕ) → Labels → ℕ → List ℕ → Bool
key_comes earlier owner class rtype rdatas signer key_link key =
    if rtype == type_dnskey
    then name_eq owner signer && (has_bytes rdatas key && shows_key owner class key (slice_get earlier key_link))
    else shows_member signer class key (slice_get earlier key_link)

abbrev pub is_signed : Judge → List LinkValue → Labels → ℕ → ℕ → List (List ℕ) → ℕ → List ℕ → Option RrsigValue → Bool
is_signed j earlier owner class rtype rdatas key_link key None = false
is_signed j earlier owner class rtype rdatas key_link key (Some sig) =
    (sig.covered == rtype) && (signer_fits rtype sig.signer owner && (nat_le sig.labels (num_labels owner)
    && (never_expanded rtype sig.labels owner && (right_below_signer rtype sig.signer owner
    && (is_good j owner class rtype rdatas sig key (dnskey_in key) && key_comes earlier owner class rtype rdatas sig.signer key_link key)))))

-- a link holds by the anchors or by links before it
unfoldable pub link_holds : Judge → List LinkValue → LinkValue → Bool
link_holds j earlier (Anchored owner class key) = j.is_anchored owner key
link_holds j earlier (Matched owner class key ds_link ds) =
    shows_ds owner class ds (slice_get earlier ds_link) && ds_covers_key j.answers owner key ds
link_holds j earlier (KeySet owner class keys links) = is_nonempty keys && all_shown earlier owner class keys links
link_holds j earlier (Signed owner class rtype rdatas sig key_link key) =
    not (rtype == type_rrsig) && (is_nonempty rdatas && is_signed j earlier owner class rtype rdatas key_link key (rrsig_in sig))

unfoldable pub links_hold : Judge → List LinkValue → List LinkValue → Bool
links_hold j earlier [] = true
links_hold j earlier (link ∷ links) = link_holds j earlier link && links_hold j (earlier ++ link ∷ []) links

-- a chain has a link, and each link holds
abbrev pub justified : Judge → List LinkValue → Bool
justified j chain = is_nonempty chain && links_hold j [] chain

unfoldable pub last_link : List LinkValue → Option LinkValue
last_link [] = None
last_link (link ∷ []) = Some link
last_link (link ∷ next ∷ links) = last_link (next ∷ links)

-- the same byte lists in the same order
abbrev pub same_rdatas : List (List ℕ) → List (List ℕ) → Bool
same_rdatas = pointwise bytes_eq

abbrev pub rdatas_of : List Rr → List (List ℕ)
rdatas_of records = map (λ r. r.rdata) records

-- the link is about a set of this owner, class, type and rdatas
abbrev pub link_is_for : RrSet → Option LinkValue → Bool
link_is_for set (Some (KeySet owner class keys links)) =
    (set.rtype == type_dnskey) && (name_eq set.owner owner && ((set.class == class) && same_rdatas (rdatas_of set.records) keys))
link_is_for set (Some (Signed owner class rtype rdatas sig key_link key)) =
    (set.rtype == rtype) && (name_eq set.owner owner && ((set.class == class) && same_rdatas (rdatas_of set.records) rdatas))
link_is_for set _ = false

-- a chain ends at a set
abbrev pub ends_at : List LinkValue → RrSet → Bool
ends_at chain set = link_is_for set (last_link chain)

-- a chain that a verifier accepts by itself, whoever trusts its first key and whenever
abbrev pub accepted_alone : VerifierAnswers → List LinkValue → Bool
accepted_alone answers chain = justified (judge_alone answers) chain
