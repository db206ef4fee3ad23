-- Which signature of a key set is good by a key that may sign, where each such key is tried once.
use Rattle.std.proofs.Common.{◌≡◌, Bool, true, false, ◌&&◌, cond, List, [], ◌∷◌, take, refl, ap, ◌∙◌}
use Rattle.std.specs.Prelude.{not}
use Rattle.std.specs.List.{filter, find, list_all}
use Rattle.std.proofs.lemmas.Bool.{and_parts}
use Rattle.dns_model.specs.Records.{Rr, RrSet}
use Rattle.dns_model.specs.Chains.{Judge}
use Rattle.dns_rules.specs.Validity.{is_good_by}
use Rattle.dns_rules.specs.Marks.{most_signatures}
use Rattle.dns_rules.specs.KeySets.{is_anchored_key, is_matched_key, signed_by}
use Rattle.dns_rules.proofs.SignerLemmas.{IsKeyOf, anchored_is_key, matched_is_key, good_alike, signed_among}
use Rattle.dns_trust.specs.Beside.{is_matched_only}
use Rattle.dns_trust.specs.Signers.{AreOnce, first_signed_by}
use Rattle.dns_trust.proofs.Searches.{first_signed_by-from}

all_step : (may : Rr → Bool) (b : Bool) (r : Rr) (kept : List Rr) → may r ≡ b → list_all may kept ≡ true
    → list_all may (cond b (r ∷ kept) kept) ≡ true
all_step may true r kept is h = ap (λ c. c && list_all may kept) is ∙ h
all_step may false r kept is h = h

all_filter : (may : Rr → Bool) (rs : List Rr) → list_all may (filter may rs) ≡ true
all_filter may [] = refl
all_filter may (r ∷ rs) = all_step may (may r) r (filter may rs) refl (all_filter may rs)

-- the first signature that is good by one of the keys that may sign, copies aside, is the first that is good by one of them
signed_once : (may : Rr → Bool) (j : Judge) (set : RrSet) (once keys : List Rr) → ((key : Rr) → may key ≡ true → IsKeyOf set key)
    → keys ≡ filter may set.records → AreOnce once keys
    → first_signed_by j set once (take most_signatures set.signatures) ≡ signed_by may j set
signed_once may j set once keys own is copies =
    first_signed_by-from j set once (take most_signatures set.signatures)
    ∙ signed_among may j set once
    (λ r. copies may (is_good_by j set r) (ap (list_all may) is ∙ all_filter may set.records)
    (λ a b h k same. good_alike j set r a b (own a h) (own b k) same)
    ∙ ap (find (is_good_by j set r)) is)

pub anchored_once : (j : Judge) (set : RrSet) (once keys : List Rr) → keys ≡ filter (is_anchored_key j set) set.records → AreOnce once keys
    → first_signed_by j set once (take most_signatures set.signatures) ≡ signed_by (is_anchored_key j set) j set
anchored_once j set once keys = signed_once (is_anchored_key j set) j set once keys (anchored_is_key j set)

pub matched_once : (j : Judge) (set : RrSet) (ds once keys : List Rr) → keys ≡ filter (is_matched_only j set ds) set.records
    → AreOnce once keys
    → first_signed_by j set once (take most_signatures set.signatures) ≡ signed_by (is_matched_only j set ds) j set
matched_once j set ds once keys =
    signed_once (is_matched_only j set ds) j set once keys
    (λ key h. matched_is_key j set ds key (and_parts (not (is_anchored_key j set key)) (is_matched_key j set ds key) h).1)
