-- What is told of one zone more, and what is accepted of it.
use Rattle.std.proofs.Common.{◌≡◌, ◌+◌, ℕ, zero, suc, List, [], ◌∷◌, ◌++◌, sym, ap, ◌∙◌, arith}
use Rattle.std.proofs.lemmas.List.{append_assoc}
use Rattle.dns_model.specs.Records.{Question}
use Rattle.dns_handle.specs.Errors.{Reply}
use Rattle.dns_recorded.specs.Recording.{RecordedValue}
use Rattle.dns_bench_zones.specs.NestedZones.{zones_told, ds_told, keys_told}

-- what is told of one zone more stands behind the rest
pub more_told : (front : List (Question × Reply)) (k : ℕ)
    → ((front ++ zones_told k) ++ ds_told k ∷ []) ++ keys_told (suc k) ∷ [] ≡ front ++ zones_told (suc k)
unfolding zones_told
more_told front k =
    append_assoc (front ++ zones_told k) (ds_told k ∷ []) (keys_told (suc k) ∷ [])
    ∙ append_assoc front (zones_told k) (ds_told k ∷ keys_told (suc k) ∷ [])

-- and the upstream tells that, one reply after another
pub grown : (entry before between after : RecordedValue) (k next : ℕ) → next ≡ k + 1
    → before ≡ record entry { replies = entry.replies ++ zones_told k }
    → between ≡ record before { replies = before.replies ++ ds_told k ∷ [] }
    → after ≡ record between { replies = between.replies ++ keys_told next ∷ [] }
    → after ≡ record entry { replies = entry.replies ++ zones_told next }
grown entry before between after k next is one two three =
    let same : next ≡ suc k = omega (arith, is) in
    three
    ∙ ap (λ (x : RecordedValue). record x { replies = x.replies ++ keys_told next ∷ [] })
    (two ∙ ap (λ (x : RecordedValue). record x { replies = x.replies ++ ds_told k ∷ [] }) one)
    ∙ ap (λ (n : ℕ). record entry { replies = ((entry.replies ++ zones_told k) ++ ds_told k ∷ []) ++ keys_told n ∷ [] })
    same
    ∙ ap (λ (r : List (Question × Reply)). record entry { replies = r }) (more_told entry.replies k)
    ∙ ap (λ (n : ℕ). record entry { replies = entry.replies ++ zones_told n }) (sym same)

-- the root alone
pub begun : (entry after : RecordedValue) (k : ℕ) → k ≡ 0
    → after ≡ record entry { replies = entry.replies ++ keys_told k ∷ [] }
    → after ≡ record entry { replies = entry.replies ++ zones_told k }
unfolding zones_told
begun entry after zero is told = told
begun entry after (suc k) is told = cc
