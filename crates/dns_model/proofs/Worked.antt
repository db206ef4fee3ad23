-- The definitions on worked rows: what each says of small values, shown by computing it.
use Rattle.std.specs.Prelude.{◌≡◌, ℕ, Bool, true, false, ◌==◌, ◌&&◌, List, [], ◌∷◌, None, Some, refl}
use Rattle.std.specs.List.{list_all}
use Rattle.std.specs.Ordering.{is_lt, is_gt}
use Rattle.std.specs.declared.cmp.Ordering.TheVariants.{Less}
use Rattle.dns_model.specs.Bytes.{u16_bytes, u32_bytes}
use Rattle.dns_model.specs.Names.{Labels, Label, name_cmp}
use Rattle.dns_model.specs.NameForm.{label_in, labels_in, name_in}
use Rattle.dns_model.specs.Serial.{serial_cmp, timely, seconds_left}
use Rattle.dns_model.specs.Shapes.{parts_in, shape_of, is_lowered_type, canonical_form}
use Rattle.dns_model.specs.Signing.{key_tag_of, tag_sum, insert_once, rising_once, signed_bytes}
use Rattle.dns_model.specs.Keys.{VerifierAnswers, AnchorValue, bytes_eq}
use Rattle.dns_model.specs.Chains.{LinkValue, judge, Anchored, KeySet, Signed, all_shown, link_holds, links_hold, justified, accepted_alone}
use Rattle.dns_model.specs.Views.{RrsigValue, rrsig_in, dnskey_in}

-- ---- numbers as bytes

pub bytes_of_3600 : u32_bytes 3600 ≡ 0 ∷ 0 ∷ 14 ∷ 16 ∷ []
bytes_of_3600 = refl

pub bytes_of_greatest : u32_bytes 4294967295 ≡ 255 ∷ 255 ∷ 255 ∷ 255 ∷ []
bytes_of_greatest = refl

pub bytes_of_tag : u16_bytes 44745 ≡ 174 ∷ 201 ∷ []
bytes_of_tag = refl

-- ---- key tags

-- flags 257, protocol 3, algorithm 13 and the two bytes `aabb`
abbrev pub key : List ℕ
key = 1 ∷ 1 ∷ 3 ∷ 13 ∷ 170 ∷ 187 ∷ []

abbrev pub revoked_key : List ℕ
revoked_key = 1 ∷ 129 ∷ 3 ∷ 13 ∷ 170 ∷ 187 ∷ []

pub tag_of_key : key_tag_of key ≡ 44745
unfolding tag_sum
tag_of_key = refl

pub tag_of_revoked_key : key_tag_of revoked_key ≡ 44873
unfolding tag_sum
tag_of_revoked_key = refl

-- ---- serial numbers and times

pub far_apart : serial_cmp 0 2147483648 ≡ None
far_apart = refl

pub far_apart_back : serial_cmp 2147483648 0 ≡ None
far_apart_back = refl

pub before_along_the_circle : serial_cmp 4294967295 2147483646 ≡ Some Less
before_along_the_circle = refl

-- a signature of the root's zone with these times
abbrev pub signature_from_to : ℕ → ℕ → RrsigValue
signature_from_to inception expiration = record {
  covered = 2;
  algorithm = 13;
  labels = 0;
  original_ttl = 3600;
  expiration = expiration;
  inception = inception;
  key_tag = 44745;
  signer = [];
  signature = 192 ∷ 222 ∷ [];
}

pub timely_around_the_circle : timely (signature_from_to 4294967290 10) 4294967299 ≡ true
timely_around_the_circle = refl

pub seven_left : seconds_left (signature_from_to 4294967290 10) 4294967299 ≡ 7
seven_left = refl

pub timely_at_its_ends : timely (signature_from_to 900 2000) 900 && timely (signature_from_to 900 2000) 2000 ≡ true
timely_at_its_ends = refl

pub early : timely (signature_from_to 900 2000) 899 ≡ false
early = refl

pub late : timely (signature_from_to 900 2000) 2001 ≡ false
late = refl

pub none_left : seconds_left (signature_from_to 900 2000) 2000 ≡ 0
none_left = refl

pub half_the_circle_away : timely (signature_from_to 900 2147484648) 1000 ≡ false
half_the_circle_away = refl

-- ---- canonical order of names

abbrev pub example : Label
example = 101 ∷ 120 ∷ 97 ∷ 109 ∷ 112 ∷ 108 ∷ 101 ∷ []

abbrev pub upper_example : Label
upper_example = 69 ∷ 88 ∷ 65 ∷ 77 ∷ 80 ∷ 76 ∷ 69 ∷ []

abbrev pub letter_a : Label
letter_a = 97 ∷ []

abbrev pub letter_z : Label
letter_z = 122 ∷ []

-- the nine names of RFC 4034, 6.1, in their order
abbrev pub nine_names : List Labels
nine_names =
    (example ∷ []) ∷ (letter_a ∷ example ∷ [])
    ∷ ((121 ∷ 108 ∷ 106 ∷ 107 ∷ 106 ∷ 108 ∷ 106 ∷ 107 ∷ []) ∷ letter_a ∷ example ∷ []) ∷ ((90 ∷ []) ∷ letter_a ∷ example ∷ [])
    ∷ ((122 ∷ 65 ∷ 66 ∷ 67 ∷ []) ∷ letter_a ∷ upper_example ∷ []) ∷ (letter_z ∷ example ∷ [])
    ∷ ((1 ∷ []) ∷ letter_z ∷ example ∷ []) ∷ ((42 ∷ []) ∷ letter_z ∷ example ∷ [])
    ∷ ((200 ∷ []) ∷ letter_z ∷ example ∷ []) ∷ []

-- each name is strictly before all that follow, and they after it
abbrev pub are_in_order : List Labels → Bool
are_in_order [] = true
are_in_order (name ∷ names) =
    list_all (λ later. is_lt (name_cmp name later) && is_gt (name_cmp later name)) names && are_in_order names

pub nine_names_in_order : are_in_order nine_names ≡ true
nine_names_in_order = refl

-- ---- signed bytes

-- the signature of the root's NS set: algorithm 13, no labels, from 900 to 2000, tag 44745, signer the root
abbrev pub signature : List ℕ
signature =
    0 ∷ 2 ∷ 13 ∷ 0 ∷ 0 ∷ 0 ∷ 14 ∷ 16 ∷ 0 ∷ 0 ∷ 7 ∷ 208 ∷ 0 ∷ 0 ∷ 3 ∷ 132 ∷ 174 ∷ 201 ∷ 0 ∷ 192 ∷ 222 ∷ []

pub signature_read : rrsig_in signature ≡ Some (signature_from_to 900 2000)
unfolding rrsig_in name_in labels_in label_in
signature_read = refl

-- the rdata of `a.`
abbrev pub name_a : List ℕ
name_a = 1 ∷ 97 ∷ 0 ∷ []

-- what that signature is over
abbrev pub signed : List ℕ
signed =
    0 ∷ 2 ∷ 13 ∷ 0 ∷ 0 ∷ 0 ∷ 14 ∷ 16 ∷ 0 ∷ 0 ∷ 7 ∷ 208 ∷ 0 ∷ 0 ∷ 3 ∷ 132 ∷ 174 ∷ 201 ∷ 0
    ∷ 0 ∷ 0 ∷ 2 ∷ 0 ∷ 1 ∷ 0 ∷ 0 ∷ 14 ∷ 16 ∷ 0 ∷ 3 ∷ 1 ∷ 97 ∷ 0 ∷ []

pub signed_bytes_of_the_set : signed_bytes [] 2 1 (name_a ∷ []) (signature_from_to 900 2000) ≡ signed
unfolding signed_bytes rising_once insert_once canonical_form is_lowered_type parts_in shape_of name_in labels_in label_in
signed_bytes_of_the_set = refl

-- `A.` and `a.` are one record as it is signed
pub signed_once : signed_bytes [] 2 1 ((1 ∷ 65 ∷ 0 ∷ []) ∷ name_a ∷ []) (signature_from_to 900 2000) ≡ signed
unfolding signed_bytes rising_once insert_once canonical_form is_lowered_type parts_in shape_of name_in labels_in label_in
signed_once = refl

-- ---- a chain

abbrev pub other_key : List ℕ
other_key = 1 ∷ 1 ∷ 3 ∷ 13 ∷ 170 ∷ 188 ∷ []

-- a verifier that supports algorithm 13, and accepts one signature by one key
abbrev pub verifier : VerifierAnswers
verifier = record {
  supports = λ algorithm. algorithm == 13;
  accepts = λ algorithm public bytes sig.
      (algorithm == 13) && (bytes_eq public (170 ∷ 187 ∷ []) && (bytes_eq bytes signed && bytes_eq sig (192 ∷ 222 ∷ [])));
}

-- the root's key, by algorithm and public key
abbrev pub anchors : List AnchorValue
anchors = record { owner = []; algorithm = 13; key = 170 ∷ 187 ∷ [] } ∷ []

abbrev pub chain_by : List ℕ → List LinkValue
chain_by k = Anchored [] 1 k ∷ KeySet [] 1 (k ∷ []) (0 ∷ []) ∷ Signed [] 1 2 (name_a ∷ []) signature 1 k ∷ []

pub justified_at_1000 : justified (judge verifier anchors 1000) (chain_by key) ≡ true
unfolding links_hold link_holds all_shown rrsig_in dnskey_in name_in labels_in label_in tag_sum signed_bytes rising_once
    insert_once canonical_form is_lowered_type parts_in shape_of
justified_at_1000 = refl

pub justified_at_its_end : justified (judge verifier anchors 2000) (chain_by key) ≡ true
unfolding links_hold link_holds all_shown rrsig_in dnskey_in name_in labels_in label_in tag_sum signed_bytes rising_once
    insert_once canonical_form is_lowered_type parts_in shape_of
justified_at_its_end = refl

pub not_justified_after_its_end : justified (judge verifier anchors 2001) (chain_by key) ≡ false
unfolding links_hold link_holds all_shown rrsig_in dnskey_in name_in labels_in label_in tag_sum signed_bytes rising_once
    insert_once canonical_form is_lowered_type parts_in shape_of
not_justified_after_its_end = refl

pub not_justified_before_its_start : justified (judge verifier anchors 899) (chain_by key) ≡ false
unfolding links_hold link_holds all_shown rrsig_in dnskey_in name_in labels_in label_in tag_sum signed_bytes rising_once
    insert_once canonical_form is_lowered_type parts_in shape_of
not_justified_before_its_start = refl

pub not_justified_by_another_key : justified (judge verifier anchors 1000) (chain_by other_key) ≡ false
unfolding links_hold link_holds all_shown rrsig_in dnskey_in name_in labels_in label_in tag_sum signed_bytes rising_once
    insert_once canonical_form is_lowered_type parts_in shape_of
not_justified_by_another_key = refl

pub not_justified_by_a_revoked_key : justified (judge verifier anchors 1000) (chain_by revoked_key) ≡ false
unfolding links_hold link_holds all_shown rrsig_in dnskey_in name_in labels_in label_in tag_sum signed_bytes rising_once
    insert_once canonical_form is_lowered_type parts_in shape_of
not_justified_by_a_revoked_key = refl

pub not_justified_without_an_anchor : justified (judge verifier [] 1000) (chain_by key) ≡ false
unfolding links_hold link_holds all_shown rrsig_in dnskey_in name_in labels_in label_in tag_sum signed_bytes rising_once
    insert_once canonical_form is_lowered_type parts_in shape_of
not_justified_without_an_anchor = refl

pub accepted_at_any_time : accepted_alone verifier (chain_by key) ≡ true
unfolding links_hold link_holds all_shown rrsig_in dnskey_in name_in labels_in label_in tag_sum signed_bytes rising_once
    insert_once canonical_form is_lowered_type parts_in shape_of
accepted_at_any_time = refl

pub no_links : justified (judge verifier anchors 1000) [] ≡ false
no_links = refl

pub no_keys : justified (judge verifier anchors 1000) (KeySet [] 1 [] [] ∷ []) ≡ false
unfolding links_hold link_holds
no_keys = refl

pub a_number_too_many : justified (judge verifier anchors 1000) (Anchored [] 1 key ∷ KeySet [] 1 (key ∷ []) (0 ∷ 0 ∷ []) ∷ []) ≡ false
unfolding links_hold link_holds all_shown dnskey_in
a_number_too_many = refl

pub its_own_number : justified (judge verifier anchors 1000) (Anchored [] 1 key ∷ KeySet [] 1 (key ∷ []) (1 ∷ []) ∷ []) ≡ false
unfolding links_hold link_holds all_shown dnskey_in
its_own_number = refl

pub another_class : justified (judge verifier anchors 1000) (Anchored [] 1 key ∷ KeySet [] 3 (key ∷ []) (0 ∷ []) ∷ []) ≡ false
unfolding links_hold link_holds all_shown dnskey_in
another_class = refl

pub no_rdata : justified (judge verifier anchors 1000)
    (Anchored [] 1 key ∷ KeySet [] 1 (key ∷ []) (0 ∷ []) ∷ Signed [] 1 2 [] signature 1 key ∷ []) ≡ false
unfolding links_hold link_holds all_shown rrsig_in dnskey_in name_in labels_in label_in tag_sum signed_bytes rising_once
    insert_once canonical_form is_lowered_type parts_in shape_of
no_rdata = refl

-- an anchored key alone signs no other set than its own
pub a_key_that_is_no_set : justified (judge verifier anchors 1000) (Anchored [] 1 key ∷ Signed [] 1 2 (name_a ∷ []) signature 0 key ∷ [])
    ≡ false
unfolding links_hold link_holds all_shown rrsig_in dnskey_in name_in labels_in label_in tag_sum signed_bytes rising_once
    insert_once canonical_form is_lowered_type parts_in shape_of
a_key_that_is_no_set = refl
