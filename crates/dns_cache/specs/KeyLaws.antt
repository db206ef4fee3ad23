-- Proofs alone: the laws of equality and order of keys, which the impls of their traits name.
use Rattle.std.specs.Prelude.{◌≡◌, true, ◌==◌, ◌&&◌, List, Decides}
use Rattle.std.specs.Cmp.{IsEquivalence, IsTotalOrder, and_equiv, both_tied, first_so, nat_cmp_total, nat_eq_equiv, on_equiv, on_total, second_so, then_total, unsigned_Decides, unsigned_ties}
use Rattle.std.specs.Cmp.Lexicographic.{pointwise, pointwise_decides, bytes_decides, slice_cmp, lists_equiv, lists_ties, lists_total, nat_list_cmp_total, nat_list_eq_equiv, texts_ties}
use Rattle.std.specs.Ordering.{is_eq, nat_cmp}
use Rattle.std.proofs.Common.{subst}
use Rattle.dns_model.specs.Keys.{bytes_eq}
use Rattle.dns_model.specs.Names.{labels_cmp, labels_eq}
use Rattle.dns_model.specs.Records.{Question}
use Rattle.dns_model.proofs.OrderLemmas.{labels_Decides, labels_ties, labels_total}
use Rattle.dns_rules.specs.CacheKeys.{RecordBytes, CacheKeyValue, query_eq, record_eq, key_eq}
use Rattle.dns_cache.specs.KeyOrder.{query_cmp, record_cmp, key_cmp}

-- ---- equality is an equivalence

query_equiv : IsEquivalence query_eq
query_equiv =
    and_equiv (on_equiv (λ (q : Question). q.owner) (lists_equiv nat_list_eq_equiv))
    (and_equiv (on_equiv (λ (q : Question). q.rtype) nat_eq_equiv) (on_equiv (λ (q : Question). q.class) nat_eq_equiv))

record_equiv : IsEquivalence record_eq
record_equiv =
    and_equiv (on_equiv (λ (r : RecordBytes). r.owner) nat_list_eq_equiv)
    (and_equiv (on_equiv (λ (r : RecordBytes). r.rtype) nat_eq_equiv)
    (and_equiv (on_equiv (λ (r : RecordBytes). r.class) nat_eq_equiv) (on_equiv (λ (r : RecordBytes). r.rdata) nat_list_eq_equiv)))

pub key_equiv : IsEquivalence key_eq
key_equiv =
    and_equiv (on_equiv (λ (k : CacheKeyValue). k.query) query_equiv)
    (and_equiv (on_equiv (λ (k : CacheKeyValue). k.records) (lists_equiv record_equiv))
    (on_equiv (λ (k : CacheKeyValue). k.signatures) (lists_equiv record_equiv)))

-- ---- it decides whether two keys are one

query_Decides : (a b : Question) → Decides (query_eq a b) (a ≡ b)
query_Decides a b = (
  λ h.
      let rest = second_so (labels_eq a.owner b.owner) ((a.rtype == b.rtype) && (a.class == b.class)) h in
      let owner = (labels_Decides a.owner b.owner).0 (first_so (labels_eq a.owner b.owner) ((a.rtype == b.rtype) && (a.class == b.class)) h) in
      let rtype = (unsigned_Decides a.rtype b.rtype).0 (first_so (a.rtype == b.rtype) (a.class == b.class) rest) in
      let class = (unsigned_Decides a.class b.class).0 (second_so (a.rtype == b.rtype) (a.class == b.class) rest) in
      λ i. record { owner = owner i; rtype = rtype i; class = class i },
  λ p. subst (λ q. query_eq a q ≡ true) p (query_equiv.refl a),
)

record_Decides : (a b : RecordBytes) → Decides (record_eq a b) (a ≡ b)
record_Decides a b = (
  λ h.
      let numbers = (a.class == b.class) && bytes_eq a.rdata b.rdata in
      let rest = second_so (bytes_eq a.owner b.owner) ((a.rtype == b.rtype) && numbers) h in
      let last = second_so (a.rtype == b.rtype) numbers rest in
      let owner = (bytes_decides a.owner b.owner).0 (first_so (bytes_eq a.owner b.owner) ((a.rtype == b.rtype) && numbers) h) in
      let rtype = (unsigned_Decides a.rtype b.rtype).0 (first_so (a.rtype == b.rtype) numbers rest) in
      let class = (unsigned_Decides a.class b.class).0 (first_so (a.class == b.class) (bytes_eq a.rdata b.rdata) last) in
      let rdata = (bytes_decides a.rdata b.rdata).0 (second_so (a.class == b.class) (bytes_eq a.rdata b.rdata) last) in
      λ i. record { owner = owner i; rtype = rtype i; class = class i; rdata = rdata i },
  λ p. subst (λ r. record_eq a r ≡ true) p (record_equiv.refl a),
)

records_Decides : (a b : List RecordBytes) → Decides (pointwise record_eq a b) (a ≡ b)
records_Decides = pointwise_decides record_Decides

pub key_eq-Decides : (a b : CacheKeyValue) → Decides (key_eq a b) (a ≡ b)
key_eq-Decides a b = (
  λ h.
      let lists = pointwise record_eq a.records b.records && pointwise record_eq a.signatures b.signatures in
      let rest = second_so (query_eq a.query b.query) lists h in
      let query = (query_Decides a.query b.query).0 (first_so (query_eq a.query b.query) lists h) in
      let records = (records_Decides a.records b.records).0 (first_so (pointwise record_eq a.records b.records) (pointwise record_eq a.signatures b.signatures) rest) in
      let signatures = (records_Decides a.signatures b.signatures).0 (second_so (pointwise record_eq a.records b.records) (pointwise record_eq a.signatures b.signatures) rest) in
      λ i. record { query = query i; records = records i; signatures = signatures i },
  λ p. subst (λ k. key_eq a k ≡ true) p (key_equiv.refl a),
)

-- ---- the order is total

query_total : IsTotalOrder query_cmp
query_total =
    then_total (on_total (λ (q : Question). q.owner) labels_total)
    (then_total (on_total (λ (q : Question). q.rtype) nat_cmp_total) (on_total (λ (q : Question). q.class) nat_cmp_total))

record_total : IsTotalOrder record_cmp
record_total =
    then_total (on_total (λ (r : RecordBytes). r.owner) nat_list_cmp_total)
    (then_total (on_total (λ (r : RecordBytes). r.rtype) nat_cmp_total)
    (then_total (on_total (λ (r : RecordBytes). r.class) nat_cmp_total) (on_total (λ (r : RecordBytes). r.rdata) nat_list_cmp_total)))

pub key_total : IsTotalOrder key_cmp
key_total =
    then_total (on_total (λ (k : CacheKeyValue). k.query) query_total)
    (then_total (on_total (λ (k : CacheKeyValue). k.records) (lists_total record_total))
    (on_total (λ (k : CacheKeyValue). k.signatures) (lists_total record_total)))

-- ---- keys are equal exactly where the order does not tell them apart

query_ties : (a b : Question) → query_eq a b ≡ is_eq (query_cmp a b)
query_ties a b =
    both_tied _ _ (labels_cmp a.owner b.owner) _ (labels_ties a.owner b.owner)
    (both_tied _ _ (nat_cmp a.rtype b.rtype) (nat_cmp a.class b.class) (unsigned_ties a.rtype b.rtype) (unsigned_ties a.class b.class))

record_ties : (a b : RecordBytes) → record_eq a b ≡ is_eq (record_cmp a b)
record_ties a b =
    both_tied _ _ (slice_cmp nat_cmp a.owner b.owner) _ (texts_ties a.owner b.owner)
    (both_tied _ _ (nat_cmp a.rtype b.rtype) _ (unsigned_ties a.rtype b.rtype)
    (both_tied _ _ (nat_cmp a.class b.class) (slice_cmp nat_cmp a.rdata b.rdata) (unsigned_ties a.class b.class) (texts_ties a.rdata b.rdata)))

pub key_ties : (a b : CacheKeyValue) → key_eq a b ≡ is_eq (key_cmp a b)
key_ties a b =
    both_tied _ _ (query_cmp a.query b.query) _ (query_ties a.query b.query)
    (both_tied _ _ (slice_cmp record_cmp a.records b.records) (slice_cmp record_cmp a.signatures b.signatures)
    (lists_ties record_cmp record_ties a.records b.records) (lists_ties record_cmp record_ties a.signatures b.signatures))
