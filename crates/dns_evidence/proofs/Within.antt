-- Lists that hold the same are verifiers that answer the same.
use Rattle.std.proofs.Common.{◌≡◌, ℕ, Bool, true, false, ◌&&◌, ◌||◌, refl, sym, ap, ◌∙◌}
use Rattle.std.specs.Prelude.{◌==◌, not, slice_index_or}
use Rattle.std.specs.Bool.{Decides}
use Rattle.std.specs.List.{list_all}
use Rattle.std.proofs.Math.Logic.{⊎_elim}
use Rattle.std.proofs.lemmas.Bool.{and_parts, or_cases, or_left, or_right, not-true, not_from_false, eqb-true, eq-eqb}
use Rattle.std.proofs.lemmas.List.Folds.{Any-from_list_any, list_any_at}
use Rattle.std.proofs.lemmas.List.Sums.{AllPass-from_list_all, list_all-from_AllPass}
use Rattle.std.proofs.lemmas.Slice.Eq.{bytes_eq-Decides}
use Rattle.std.specs.Cmp.Derive.{both_true}
use Rattle.dns_model.proofs.TestLemmas.{same_test}
use Rattle.dns_evidence.specs.Verifiers.{AnswerAlike}
use Rattle.dns_evidence.specs.Listing.{ListedValue, answers_of, holds, is_entry, is_listed, is_within}
use Rattle.dns_evidence.proofs.Alike.{entry_same}
use Rattle.dns_model.specs.Keys.{AcceptedSignatureValue}

-- a test that is true or false
by_test : (b : Bool) (P : Type 0) → (b ≡ true → P) → (b ≡ false → P) → P
by_test true P yes_case no_case = yes_case refl
by_test false P yes_case no_case = no_case refl

untrue : {P : Type 0} (b : Bool) → b ≡ true → b ≡ false → P
untrue b h k = absurd (let e : true ≡ false = sym h ∙ k in cc)

-- an algorithm that one supports, the other supports
supports_from : (one other : ListedValue) → is_within one other ≡ true → (n : ℕ) → (answers_of one).supports n ≡ true
    → (answers_of other).supports n ≡ true
supports_from one other within n h =
    let halves = and_parts (list_all (λ a. (a == 1) || is_listed other a) one.algorithms)
    (list_all (λ e. (e.algorithm == 1) || holds other e) one.accepted) within in
    let parts = and_parts (not (n == 1)) (is_listed one n) h in
    let some = Any-from_list_any (λ a. n == a) one.algorithms parts.1 in
    let same : n ≡ some.1 = eqb-true n some.1 some.4 in
    let test : ((n == 1) || is_listed other n) ≡ true =
    ap (λ a. (a == 1) || is_listed other a) (same ∙ sym some.3)
    ∙ AllPass-from_list_all (λ a. (a == 1) || is_listed other a) one.algorithms halves.0 some.0 some.1 some.2 in
    both_true parts.0 (⊎_elim (λ (x : (n == 1) ≡ true). untrue {P = is_listed other n ≡ true} (n == 1) x (not-true (n == 1) parts.0))
    (λ (x : is_listed other n ≡ true). x) (or_cases (n == 1) (is_listed other n) test))

-- an entry is itself
entry_itself : (e : AcceptedSignatureValue) → is_entry e e ≡ true
entry_itself e =
    both_true (eq-eqb e.algorithm e.algorithm refl) (both_true ((bytes_eq-Decides e.key e.key).1 refl)
    (both_true ((bytes_eq-Decides e.bytes e.bytes).1 refl) ((bytes_eq-Decides e.signature e.signature).1 refl)))

-- what a list answers of a signature
abbrev accepts_entry : ListedValue → AcceptedSignatureValue → Bool
accepts_entry listed sought = (answers_of listed).accepts sought.algorithm sought.key sought.bytes sought.signature

-- a signature that one accepts, the other accepts
accepts_from : (one other : ListedValue) → is_within one other ≡ true → (sought : AcceptedSignatureValue)
    → accepts_entry one sought ≡ true → accepts_entry other sought ≡ true
accepts_from one other within sought h =
    let halves = and_parts (list_all (λ a. (a == 1) || is_listed other a) one.algorithms)
    (list_all (λ e. (e.algorithm == 1) || holds other e) one.accepted) within in
    let parts = and_parts (not (sought.algorithm == 1)) (holds one sought) h in
    let some = Any-from_list_any (is_entry sought) one.accepted parts.1 in
    let test : ((sought.algorithm == 1) || holds other sought) ≡ true =
    ap (λ e. (e.algorithm == 1) || holds other e) (entry_same sought some.1 some.4 ∙ sym some.3)
    ∙ AllPass-from_list_all (λ e. (e.algorithm == 1) || holds other e) one.accepted halves.1 some.0 some.1 some.2 in
    both_true parts.0
    (⊎_elim (λ (x : (sought.algorithm == 1) ≡ true). untrue (sought.algorithm == 1) x (not-true (sought.algorithm == 1) parts.0))
    (λ (x : holds other sought ≡ true). x)
    (or_cases (sought.algorithm == 1) (holds other sought) test))

-- the tests of a list whose answers are all the other's
within_to : (one other : ListedValue) → AnswerAlike (answers_of one) (answers_of other) → is_within one other ≡ true
within_to one other s =
    both_true
    (list_all-from_AllPass (λ a. (a == 1) || is_listed other a) one.algorithms (λ k d below.
    let x = slice_index_or one.algorithms k d in
    by_test (x == 1) (((x == 1) || is_listed other x) ≡ true) (or_left (x == 1) (is_listed other x))
    (λ h. or_right (x == 1) (is_listed other x)
    (and_parts (not (x == 1)) (is_listed other x) (sym (s.supports x)
    ∙ both_true (not_from_false (x == 1) h) (list_any_at (λ a. x == a) one.algorithms k d below (eq-eqb x x refl)))).1)))
    (list_all-from_AllPass (λ e. (e.algorithm == 1) || holds other e) one.accepted (λ k d below.
    let e = slice_index_or one.accepted k d in
    by_test (e.algorithm == 1) (((e.algorithm == 1) || holds other e) ≡ true) (or_left (e.algorithm == 1) (holds other e))
    (λ h. or_right (e.algorithm == 1) (holds other e)
    (and_parts (not (e.algorithm == 1)) (holds other e) (sym (s.accepts e.algorithm e.key e.bytes e.signature)
    ∙ both_true (not_from_false (e.algorithm == 1) h) (list_any_at (is_entry e) one.accepted k d below (entry_itself e)))).1)))

-- both hold what the other holds exactly where they answer the same
pub same_decides : (one other : ListedValue)
    → Decides (is_within one other && is_within other one) (AnswerAlike (answers_of one) (answers_of other))
same_decides one other = (
  λ h.
      let parts = and_parts (is_within one other) (is_within other one) h in
      record {
        supports = λ n. same_test ((answers_of one).supports n) ((answers_of other).supports n)
            (supports_from one other parts.0 n) (supports_from other one parts.1 n);
        accepts = λ n key bytes signature. same_test ((answers_of one).accepts n key bytes signature)
            ((answers_of other).accepts n key bytes signature)
            (accepts_from one other parts.0 (record { algorithm = n; key = key; bytes = bytes; signature = signature }))
            (accepts_from other one parts.1 (record { algorithm = n; key = key; bytes = bytes; signature = signature }));
      },
  λ s. both_true (within_to one other s)
      (within_to other one (record {
        supports = λ n. sym (s.supports n);
        accepts = λ n key bytes signature. sym (s.accepts n key bytes signature);
      })),
)
