-- Until when what is found of a set is kept (RFC 4035, 4.7 and 5.3.3; RFC 2308, 5).
use Rattle.std.specs.Prelude.{ℕ, ◌+◌, ◌-◌, ◌^◌, min, max, List, fold, slice_get, Option, None, Some, Ok, Err, if◌then◌else◌}
use Rattle.dns_model.specs.Views.{rrsig_in}
use Rattle.dns_model.specs.Chains.{LinkValue, Signed}
use Rattle.dns_model.specs.Records.{RrSet}
use Rattle.dns_model.specs.SoundAnswers.{ChainValue, is_secure, signed_ttl, ttl_of}
use Rattle.dns_rules.specs.CacheEntries.{Found}

-- for at least and for at most so many seconds
pub record TtlRangeValue : Type 0 where
  pub least : ℕ
  pub most : ℕ

-- for errors, and for all else that is found
pub record TtlRangesValue : Type 0 where
  pub positive : TtlRangeValue
  pub negative : TtlRangeValue

abbrev pub clamped : TtlRangeValue → ℕ → ℕ
clamped range ttl = min (max ttl range.least) range.most

-- a signed link leaves no more than its signature's original ttl and the seconds for which the signature is still valid
abbrev pub left_by_link : ℕ → ℕ → LinkValue → ℕ
left_by_link now seconds (Signed owner class rtype rdatas sig key_link key) = min seconds (signed_ttl (rrsig_in sig) now)
left_by_link now seconds _ = seconds

-- the least that the links of a chain leave
abbrev pub left_by_links : ℕ → ℕ → List LinkValue → ℕ
left_by_links now seconds links = fold (left_by_link now) seconds links

abbrev pub left_by_chain : ℕ → ℕ → Option ChainValue → ℕ
left_by_chain now seconds None = seconds
left_by_chain now seconds (Some chain) = left_by_links now seconds chain.links

-- for how many seconds: the ttl within its range, and a Secure set's no longer than its chain holds
abbrev pub kept_for : TtlRangesValue → ℕ → ℕ → Found → Option ChainValue → ℕ
kept_for ranges now ttl (Err error) chain = clamped ranges.negative ttl
kept_for ranges now ttl (Ok proof) chain =
    if is_secure proof.proof then left_by_chain now (clamped ranges.positive ttl) chain else clamped ranges.positive ttl

-- from a moment on, by the ttl with which the set's first record came; moments stop at the greatest 64-bit number
abbrev pub expires_at : TtlRangesValue → ℕ → RrSet → Found → Option ChainValue → ℕ
expires_at ranges now set found chain = min (now + kept_for ranges now (ttl_of (slice_get set.records 0)) found chain) (2 ^ 64 - 1)
