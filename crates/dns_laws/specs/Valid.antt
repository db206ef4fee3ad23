-- Valid sessions: straight replies that lead from a query to an anchored key, each proved by the next (RFC 4035, 5.2 and 5.3).
use Rattle.std.specs.Prelude.{◌≡◌, ◌≤◌, ℕ, Bool, true, false, not, ◌==◌, ◌&&◌, ◌||◌, nat_le, List, [], ◌∷◌, length, Option, None, slice_get, if◌then◌else◌}
use Rattle.std.specs.Option.{option_map_or, option_and_then}
use Rattle.std.specs.List.{filter, list_any, list_all}
use Rattle.dns_model.specs.Types.{class_in, type_opt, type_rrsig, type_nsec, type_dnskey, type_nsec3}
use Rattle.dns_model.specs.Records.{Rr, RrSet, Question, question_eq}
use Rattle.dns_model.specs.RecordViews.{rrsig_of}
use Rattle.dns_model.specs.Sections.{sets_of}
use Rattle.dns_model.specs.Chains.{Judge, signer_fits}
use Rattle.dns_model.specs.SoundAnswers.{Told}
use Rattle.dns_rules.specs.Validity.{is_good_by}
use Rattle.dns_rules.specs.Marks.{key_question, counted_keys}
use Rattle.dns_rules.specs.Delegations.{ds_question, is_supported_ds}
use Rattle.dns_rules.specs.KeySets.{is_root, is_anchored_key, is_matched_key}
use Rattle.dns_rules.specs.Asking.{depth_limit}
use Rattle.dns_laws.specs.Straight.{is_straight}

-- a query that can be proved so: of class IN, for no signature, no denial, no OPT and none of the types 128 to 255, which are
-- questions alone (RFC 6895, 3.1)
abbrev pub is_plain_query : Question → Bool
is_plain_query q =
    (q.class == class_in)
    && not ((q.rtype == type_rrsig) || ((q.rtype == type_nsec) || ((q.rtype == type_nsec3) || ((q.rtype == type_opt)
    || (nat_le 128 q.rtype && nat_le q.rtype 255)))))

-- the RRset that a query gets, where the reply to it is straight
abbrev pub straight_set : Judge → (Question → Option Told) → Question → Option RrSet
straight_set j tells q =
    option_and_then (λ told. if is_straight j q told then slice_get (sets_of told.answers) 0 else None) (tells q)

-- the signature of a key set is good by a key of it that may sign
abbrev pub is_signed_by : (Rr → Bool) → Judge → RrSet → Bool
is_signed_by may_sign j set = list_any (λ r. list_any (λ key. may_sign key && is_good_by j set r key) set.records) set.signatures

-- what anchors alone prove of a key set: each of its keys is anchored, or one that is made a good signature over it
abbrev pub is_anchored_set : Judge → RrSet → Bool
is_anchored_set j set = list_all (is_anchored_key j set) set.records || is_signed_by (is_anchored_key j set) j set

-- the keys of the signer come next, which stands at or above the owner, and strictly above that of a DS set; by one of them, the
-- first or second readable one of its tag, the signature is good
abbrev pub is_proved_by_keys : Judge → RrSet → Question → RrSet → Rr → Bool
is_proved_by_keys j set next keys r =
    option_map_or
    (λ sig.
    signer_fits set.rtype sig.signer set.owner && (question_eq (key_question set.class sig.signer) next
    && list_any (is_good_by j set r) (counted_keys sig.signer keys.records)))
    (rrsig_of r) false

-- the DS set of the owner comes next, which isn't the root. A DS of it matches the key that made the signature; of the supported DS
-- records with one algorithm and one tag no more than two count
abbrev pub is_proved_by_ds : Judge → RrSet → Question → RrSet → Bool
is_proved_by_ds j set next ds =
    not (is_root set.owner) && (question_eq (ds_question set.class set.owner) next
    && is_signed_by (is_matched_key j set (filter (is_supported_ds j.answers) ds.records)) j set)

-- a set is proved by that of the next query; a key set only where no anchor does
abbrev pub is_proved_by : Judge → RrSet → Question → RrSet → Bool
is_proved_by j set next above =
    if set.rtype == type_dnskey
    then not (is_anchored_set j set) && is_proved_by_ds j set next above
    else list_any (is_proved_by_keys j set next above) set.signatures

-- the set of a query, and those of the queries after it, each proved by the next, and the last by an anchor
unfoldable pub leads_to_anchor : Judge → (Question → Option Told) → Question → List Question → Bool
leads_to_anchor j tells q [] = option_map_or (λ set. (set.rtype == type_dnskey) && is_anchored_set j set) (straight_set j tells q) false
leads_to_anchor j tells q (next ∷ rest) =
    option_map_or (λ set. option_map_or (is_proved_by j set next) (straight_set j tells next) false) (straight_set j tells q) false
    && leads_to_anchor j tells next rest

-- the replies that are told make a session valid for a query: there is a list of queries after it, no more than asks may go deep
pub record IsValidSession (j : Judge) (tells : Question → Option Told) (depth : ℕ) (q : Question) : Type 0 where
  pub plain : is_plain_query q ≡ true
  pub queries : List Question
  pub few : length queries ≤ depth_limit depth
  pub leads : leads_to_anchor j tells q queries ≡ true
