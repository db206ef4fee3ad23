-- The definitions at their edges: the root, wildcards, cut bytes, letters in either case.
use Rattle.std.specs.Prelude.{◌≡◌, ℕ, true, false, List, [], ◌∷◌, ◌++◌, map, replicate, None, Some, is_some, refl}
use Rattle.std.specs.Prelude.{Bool, nat_le}
use Rattle.std.specs.Option.{option_map_or}
use Rattle.dns_model.specs.Names.{Labels, at_or_above, strictly_above, parent, num_labels, last_labels, star, wire}
use Rattle.dns_model.specs.NameForm.{label_in, labels_in, name_in}
use Rattle.dns_model.specs.Shapes.{counted_in, window_in, windows_in, is_bitmap, bitmap_has, parts_in, shape_of, is_lowered_type, canonical_form}
use Rattle.dns_model.specs.Signing.{signed_owner, key_tag}
use Rattle.dns_model.specs.Views.{rrsig_in, dnskey_in, ns_in}
use Rattle.dns_model.specs.Records.{Rr}
use Rattle.dns_model.specs.Sections.{leaders, sets_of}
use Rattle.dns_model.specs.Keys.{VerifierAnswers, usable_key}
use Rattle.dns_model.specs.Chains.{signer_fits, never_expanded, right_below_signer}
use Rattle.dns_model.specs.declared.proof.Proof.TheVariants.{Indeterminate}
use Rattle.dns_model.proofs.Worked.{example, upper_example, letter_a, key, revoked_key, signature, name_a, verifier}

-- ---- names

pub root_over_itself : at_or_above [] [] ≡ true
root_over_itself = refl

pub root_not_strictly : strictly_above [] [] ≡ false
root_not_strictly = refl

pub root_over_all : strictly_above [] (example ∷ []) ≡ true
root_over_all = refl

pub not_strictly_in_other_case : strictly_above (upper_example ∷ []) (example ∷ []) ≡ false
not_strictly_in_other_case = refl

pub over_in_other_case : strictly_above (upper_example ∷ []) (letter_a ∷ example ∷ []) ≡ true
over_in_other_case = refl

pub not_over_the_zone_above : at_or_above (letter_a ∷ example ∷ []) (example ∷ []) ≡ false
not_over_the_zone_above = refl

-- whole labels are compared: `ple.` isn't over `example.`
pub not_over_by_bytes : at_or_above ((112 ∷ 108 ∷ 101 ∷ []) ∷ []) (example ∷ []) ≡ false
not_over_by_bytes = refl

pub root_over_root : parent [] ≡ []
root_over_root = refl

pub labels_of_root_wildcard : num_labels (star []) ≡ 0
labels_of_root_wildcard = refl

pub labels_of_inner_asterisk : num_labels (letter_a ∷ star (example ∷ [])) ≡ 3
labels_of_inner_asterisk = refl

pub labels_of_two_asterisks : num_labels ((42 ∷ 42 ∷ []) ∷ []) ≡ 1
labels_of_two_asterisks = refl

pub last_of_few : last_labels 7 (letter_a ∷ example ∷ []) ≡ letter_a ∷ example ∷ []
last_of_few = refl

-- ---- the wire form of names

pub nothing_is_no_name : name_in [] ≡ None
unfolding name_in labels_in label_in
nothing_is_no_name = refl

pub root_read : name_in (0 ∷ 7 ∷ []) ≡ Some ([], 7 ∷ [])
unfolding name_in labels_in label_in
root_read = refl

pub pointer_is_no_label : name_in (192 ∷ 0 ∷ []) ≡ None
unfolding name_in labels_in label_in
pointer_is_no_label = refl

pub cut_name : name_in (1 ∷ 97 ∷ []) ≡ None
unfolding name_in labels_in label_in
cut_name = refl

abbrev pub long_name : ℕ → Labels
long_name last = replicate 63 97 ∷ replicate 63 98 ∷ replicate 63 99 ∷ replicate last 100 ∷ []

pub name_of_255 : name_in (wire (long_name 61)) ≡ Some (long_name 61, [])
unfolding name_in labels_in label_in
name_of_255 = refl

pub name_of_256 : name_in (wire (long_name 62)) ≡ None
unfolding name_in labels_in label_in
name_of_256 = refl

pub label_of_64 : name_in (64 ∷ replicate 64 97 ++ 0 ∷ []) ≡ None
unfolding name_in labels_in label_in
label_of_64 = refl

-- ---- rdata

pub key_of_three_bytes : dnskey_in (1 ∷ 1 ∷ 3 ∷ []) ≡ None
unfolding dnskey_in
key_of_three_bytes = refl

pub tag_of_three_bytes : key_tag (1 ∷ 1 ∷ 3 ∷ []) ≡ None
tag_of_three_bytes = refl

pub signature_without_signer : rrsig_in (0 ∷ 2 ∷ 13 ∷ 0 ∷ 0 ∷ 0 ∷ 14 ∷ 16 ∷ 0 ∷ 0 ∷ 7 ∷ 208 ∷ 0 ∷ 0 ∷ 3 ∷ 132 ∷ 174 ∷ 201 ∷ []) ≡ None
unfolding rrsig_in name_in labels_in label_in
signature_without_signer = refl

pub empty_views : is_some (rrsig_in []) ≡ false
unfolding rrsig_in
empty_views = refl

pub target_with_a_byte_more : ns_in (1 ∷ 97 ∷ 0 ∷ 0 ∷ []) ≡ None
unfolding ns_in name_in labels_in label_in
target_with_a_byte_more = refl

-- NS and SOA in window 0
pub bits_of_apex : map (bitmap_has (0 ∷ 1 ∷ 34 ∷ [])) (1 ∷ 2 ∷ 5 ∷ 6 ∷ 7 ∷ 8 ∷ 258 ∷ [])
    ≡ false ∷ true ∷ false ∷ true ∷ false ∷ false ∷ false ∷ []
unfolding bitmap_has windows_in window_in
bits_of_apex = refl

pub bits_of_second_window : bitmap_has (0 ∷ 1 ∷ 64 ∷ 1 ∷ 1 ∷ 64 ∷ []) 257 ≡ true
unfolding bitmap_has windows_in window_in
bits_of_second_window = refl

pub no_windows : is_bitmap [] ≡ true
unfolding is_bitmap windows_in window_in
no_windows = refl

pub falling_windows : is_bitmap (1 ∷ 1 ∷ 64 ∷ 0 ∷ 1 ∷ 64 ∷ []) ≡ false
unfolding is_bitmap windows_in window_in
falling_windows = refl

pub equal_windows : is_bitmap (1 ∷ 1 ∷ 64 ∷ 1 ∷ 1 ∷ 64 ∷ []) ≡ false
unfolding is_bitmap windows_in window_in
equal_windows = refl

pub empty_window : is_bitmap (0 ∷ 0 ∷ []) ≡ false
unfolding is_bitmap windows_in window_in
empty_window = refl

pub cut_window : is_bitmap (0 ∷ 2 ∷ 64 ∷ []) ≡ false
unfolding is_bitmap windows_in window_in
cut_window = refl

-- MX 10 of `A.`
pub lowered_exchange : canonical_form 15 (0 ∷ 10 ∷ 1 ∷ 65 ∷ 0 ∷ []) ≡ 0 ∷ 10 ∷ 1 ∷ 97 ∷ 0 ∷ []
unfolding canonical_form is_lowered_type parts_in shape_of name_in labels_in label_in
lowered_exchange = refl

pub unshaped_stays : canonical_form 15 (0 ∷ 10 ∷ 1 ∷ 65 ∷ 0 ∷ 0 ∷ []) ≡ 0 ∷ 10 ∷ 1 ∷ 65 ∷ 0 ∷ 0 ∷ []
unfolding canonical_form is_lowered_type parts_in shape_of name_in labels_in label_in
unshaped_stays = refl

pub next_name_stays : canonical_form 47 (1 ∷ 65 ∷ 0 ∷ []) ≡ 1 ∷ 65 ∷ 0 ∷ []
unfolding canonical_form is_lowered_type
next_name_stays = refl

-- in NAPTR the three texts stay, and the name is lowered
pub lowered_replacement :
    canonical_form 35 (0 ∷ 1 ∷ 0 ∷ 2 ∷ 1 ∷ 83 ∷ 0 ∷ 2 ∷ 65 ∷ 66 ∷ 1 ∷ 65 ∷ 0 ∷ [])
    ≡ 0 ∷ 1 ∷ 0 ∷ 2 ∷ 1 ∷ 83 ∷ 0 ∷ 2 ∷ 65 ∷ 66 ∷ 1 ∷ 97 ∷ 0 ∷ []
unfolding canonical_form is_lowered_type parts_in shape_of counted_in name_in labels_in label_in
lowered_replacement = refl

-- ---- owners as they were signed

pub expanded_owner : signed_owner (letter_a ∷ upper_example ∷ []) 1 ≡ star (example ∷ [])
expanded_owner = refl

pub plain_owner : signed_owner (letter_a ∷ upper_example ∷ []) 2 ≡ letter_a ∷ example ∷ []
plain_owner = refl

pub wildcard_itself : signed_owner (star (example ∷ [])) 1 ≡ star (example ∷ [])
wildcard_itself = refl

pub expanded_from_root : signed_owner (letter_a ∷ example ∷ []) 0 ≡ star []
expanded_from_root = refl

-- ---- what fits a signature

pub ds_of_root : signer_fits 43 [] [] ≡ false
ds_of_root = refl

pub nsec_expanded : never_expanded 47 1 (letter_a ∷ example ∷ []) ≡ false
nsec_expanded = refl

pub nsec_of_wildcard : never_expanded 47 1 (star (example ∷ [])) ≡ true
nsec_of_wildcard = refl

pub too_many_labels : nat_le 2 (num_labels (star (example ∷ []))) ≡ false
too_many_labels = refl

pub nsec3_far_below : right_below_signer 50 [] (letter_a ∷ example ∷ []) ≡ false
nsec3_far_below = refl

-- ---- usable keys

-- an rdata that can be read as a key that may sign
abbrev usable : VerifierAnswers → List ℕ → Bool
usable answers key = option_map_or (usable_key answers) (dnskey_in key) false

pub usable_key_signs : usable verifier key ≡ true
unfolding dnskey_in
usable_key_signs = refl

pub revoked : usable verifier revoked_key ≡ false
unfolding dnskey_in
revoked = refl

pub no_zone_key : usable verifier (0 ∷ 1 ∷ 3 ∷ 13 ∷ 170 ∷ 187 ∷ []) ≡ false
unfolding dnskey_in
no_zone_key = refl

pub another_protocol : usable verifier (1 ∷ 0 ∷ 2 ∷ 13 ∷ 170 ∷ 187 ∷ []) ≡ false
unfolding dnskey_in
another_protocol = refl

pub another_algorithm : usable verifier (1 ∷ 0 ∷ 3 ∷ 8 ∷ 170 ∷ 187 ∷ []) ≡ false
unfolding dnskey_in
another_algorithm = refl

-- ---- the sets of a section

abbrev pub record_at : Labels → ℕ → List ℕ → Rr
record_at owner rtype rdata = record { owner = owner; rtype = rtype; class = 1; ttl = 60; rdata = rdata; proof = Indeterminate }

-- two letter cases are one owner; a signature that can't be read, or covers another type, isn't the set's; a signature makes no set
pub one_set_in_two_cases :
    sets_of (record_at [] 46 signature ∷ record_at (example ∷ []) 16 [] ∷ record_at [] 2 name_a ∷ record_at (upper_example ∷ []) 16 (1 ∷ [])
    ∷ record_at (example ∷ []) 46 signature ∷ record_at [] 46 [] ∷ [])
    ≡ record {
      owner = example ∷ [];
      rtype = 16;
      class = 1;
      signatures = [];
      records = record_at (example ∷ []) 16 [] ∷ record_at (upper_example ∷ []) 16 (1 ∷ []) ∷ [];
    }
    ∷ record { owner = []; rtype = 2; class = 1; signatures = record_at [] 46 signature ∷ []; records = record_at [] 2 name_a ∷ [] } ∷ []
unfolding sets_of leaders rrsig_in name_in labels_in label_in
one_set_in_two_cases = refl

pub no_sets : sets_of [] ≡ []
unfolding sets_of leaders
no_sets = refl
