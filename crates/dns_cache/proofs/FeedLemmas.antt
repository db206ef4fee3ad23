-- Records that are fed to a hasher, one after the other.
use Rattle.std.proofs.Common.{◌≡◌, ℕ, ◌+◌, ◌<◌, ◌≤◌, List, ◌∷◌, map, length, drop, fold, sym, ap, ◌∙◌}
use Rattle.std.specs.Prelude.{slice_index_or}
use Rattle.std.specs.List.{flat_map}
use Rattle.std.proofs.lemmas.Grind.{fold-append}
use Rattle.std.proofs.lemmas.List.{drop_all, drop_more}
use Rattle.dns_model.specs.Records.{Rr}
use Rattle.dns_rules.specs.CacheKeys.{bytes_of}
use Rattle.dns_cache.specs.KeyOrder.{record_input}

-- a hasher that is fed some records from a state on
abbrev pub fed_records : {S : Type 0} → (S → List ℕ → S) → S → List Rr → S
fed_records write s records = fold write s (flat_map record_input (map bytes_of records))

pub fed_next : {S : Type 0} (write : S → List ℕ → S) (s t : S) (records : List Rr) (i : ℕ) (r : Rr) → i < length records
    → r ≡ slice_index_or records i r
    → t ≡ fold write s (record_input (bytes_of r)) → fed_records write t (drop (i + 1) records) ≡ fed_records write s (drop i records)
fed_next write s t records i r within at fed =
    let rest = flat_map record_input (map bytes_of (drop (i + 1) records)) in
    let next : drop i records ≡ r ∷ drop (i + 1) records = drop_more records i r within ∙ ap (λ x. x ∷ drop (i + 1) records) (sym at) in
    ap (λ u. fold write u rest) fed ∙ sym (fold-append write s (record_input (bytes_of r)) rest) ∙ sym (ap (fed_records write s) next)

pub fed_all : {S : Type 0} (write : S → List ℕ → S) (s : S) (records : List Rr) (n : ℕ) → length records ≤ n
    → fed_records write s (drop n records) ≡ s
fed_all write s records n h = ap (fed_records write s) (drop_all n records h)
