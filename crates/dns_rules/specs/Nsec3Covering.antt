-- Which NSEC3 records count, and which of them matches or covers a hash (RFC 5155, 1.3, 3.1 and 8.1 to 8.3).
use Rattle.std.specs.Prelude.{ℕ, Bool, not, ◌==◌, ◌&&◌, ◌||◌, nat_eq, nat_le, List, [], ◌∷◌, length, Option, if◌then◌else◌}
use Rattle.std.specs.Cmp.Lexicographic.{pointwise, slice_cmp}
use Rattle.std.specs.List.{list_all, find, position}
use Rattle.std.specs.Ordering.{nat_cmp, is_lt}
use Rattle.dns_model.specs.Bytes.{has_flag}
use Rattle.dns_model.specs.Names.{Label, Labels}
use Rattle.dns_model.specs.Nsec3Hash.{is_hash_text, base32hex_bytes}
use Rattle.dns_model.specs.Owned.{OwnedNsec3}

-- ---- a record that counts

abbrev pub first_label : Labels → Label
first_label [] = []
first_label (label ∷ zone) = label

-- SHA-1, the one hash algorithm that is known (RFC 5155, 11)
abbrev pub hash_algorithm_sha1 : ℕ
hash_algorithm_sha1 = 1

-- names without a record of their own may lie between the hashes: delegations to zones that aren't signed (RFC 5155, 3.1.2.1)
abbrev pub is_opt_out : OwnedNsec3 → Bool
is_opt_out nsec3 = has_flag nsec3.fields.flags 1

-- the record isn't to be ignored: its hash algorithm is known (RFC 5155, 8.1), and so are its flags (8.2); its owner and its
-- next hash are hashes by that algorithm (3)
abbrev pub is_considered : OwnedNsec3 → Bool
is_considered nsec3 =
    (nsec3.fields.hash_algorithm == hash_algorithm_sha1)
    && (nat_le nsec3.fields.flags 1 && (is_hash_text (first_label nsec3.owner) && (length nsec3.fields.next == 20)))

-- the hash that the owner's first label is
abbrev pub owner_hash : OwnedNsec3 → List ℕ
owner_hash nsec3 = base32hex_bytes (first_label nsec3.owner)

-- ---- hashes in order

-- the first hash comes before the second (RFC 5155, 1.3: hash order)
abbrev pub hash_before : List ℕ → List ℕ → Bool
hash_before one two = is_lt (slice_cmp nat_cmp one two)

-- the hash comes strictly between two others in hash order, where after the last hash comes the first again; between a hash
-- and itself come all others
abbrev pub lies_between : List ℕ → List ℕ → List ℕ → Bool
lies_between from to hash =
    if hash_before from to then hash_before from hash && hash_before hash to
    else hash_before from hash || hash_before hash to

-- ---- the records that match or cover a hash

-- the record's owner has the hash (RFC 5155, 1.3: to match)
abbrev pub nsec3_matches : List ℕ → OwnedNsec3 → Bool
nsec3_matches hash nsec3 = is_considered nsec3 && pointwise nat_eq (owner_hash nsec3) hash

-- the hash comes between the owner's hash and the next one (RFC 5155, 1.3: to cover)
abbrev pub nsec3_spans : List ℕ → OwnedNsec3 → Bool
nsec3_spans hash nsec3 = is_considered nsec3 && lies_between (owner_hash nsec3) nsec3.fields.next hash

-- the second record's owner hash is nearer before the hash than the first one's
abbrev pub is_farther : List ℕ → OwnedNsec3 → OwnedNsec3 → Bool
is_farther hash one two = lies_between (owner_hash one) hash (owner_hash two)

-- no record of the list that covers the hash has an owner hash nearer before it
abbrev pub is_nearest : List ℕ → List OwnedNsec3 → OwnedNsec3 → Bool
is_nearest hash nsec3s nsec3 = list_all (λ other. not (nsec3_spans hash other && is_farther hash nsec3 other)) nsec3s

-- of the records that cover the hash, one whose owner hash is the nearest before it
abbrev pub counts_for : List ℕ → List OwnedNsec3 → OwnedNsec3 → Bool
counts_for hash nsec3s nsec3 = nsec3_spans hash nsec3 && is_nearest hash nsec3s nsec3

-- the record that covers the hash: of those the first with the nearest owner hash
unfoldable pub nsec3_covering : List ℕ → List OwnedNsec3 → Option OwnedNsec3
nsec3_covering hash nsec3s = find (counts_for hash nsec3s) nsec3s

-- its number, from 0
unfoldable pub covering_number : List ℕ → List OwnedNsec3 → Option ℕ
covering_number hash nsec3s = position (counts_for hash nsec3s) nsec3s
