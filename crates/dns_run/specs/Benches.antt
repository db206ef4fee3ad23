-- The line of one lookup below nested zones, and how a run ends that writes it.
use Rattle.std.specs.Prelude.{ℕ, ◌≡◌, ◌≢◌, ◌⊎◌, Bool, List, [], ◌++◌, codes, decimal, Option, if◌then◌else◌}
use Rattle.dns_io.specs.Leaving.{Wrote, WrotePrefix}
use Rattle.dns_bench_zones.specs.declared.bench.BenchCount.{BenchCount}
use Rattle.dns_bench_zones.specs.Benches.{IsOwnCount}

-- whether the address of the host is there and all of it Secure
abbrev pub secure_word : Bool → List ℕ
secure_word secure = if secure then codes "secure" else codes "unproved"

-- the line of what was counted below so many zones
abbrev pub bench_text : ℕ → BenchCount → List ℕ
bench_text n count =
    codes "bench " ++ decimal n ++ codes " " ++ secure_word count.secure ++ codes " links " ++ decimal count.links ++ codes " asks "
    ++ decimal count.asks ++ codes "\n"

-- the text is the line of what one lookup counts over the upstream that tells of so many zones
pub record IsBenchLine (n : ℕ) (text : List ℕ) : Type 0 where
  pub count : BenchCount
  pub own : IsOwnCount n count
  pub spelled : text ≡ bench_text n count

-- such a line is written and the status is 0; or a write fails or memory runs out after a prefix of it, or before it is there
pub record WritesBench (n status : ℕ) (before now : Option (List ℕ)) : Type 0 where
  pub ends : status ≢ 5 → status ≢ 6 → status ≡ 0
  pub whole : status ≡ 0 → Wrote before now (IsBenchLine n)
  pub prefix : WrotePrefix before now (λ text. IsBenchLine n text ⊎ (text ≡ []))
