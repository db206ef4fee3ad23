-- A session's judge is that of its plain lists: that a key is added once, an algorithm once and algorithm 1 never
-- changes no
-- answer.
use Rattle.std.proofs.Common.{ℕ, ◌≡◌, ◌⊎◌, ◌∙◌, Bool, true, false, cond, ◌&&◌, ◌||◌, List, [], ◌∷◌, ◌++◌, Option, None, Some, refl, sym, ap, ap₂, inl, inr, append_assoc, append-nil}
use Rattle.std.specs.Prelude.{not, ◌==◌, nat_eq}
use Rattle.std.specs.List.{list_any}
use Rattle.std.specs.Cmp.Lexicographic.{pointwise}
use Rattle.std.proofs.lemmas.Bool.{and_parts, eqb-true, or_cases}
use Rattle.std.proofs.lemmas.List.Folds.{list_any-append}
use Rattle.std.proofs.lemmas.Slice.Eq.{bytes_eq-Decides}
use mathlib.Core.Path.{fun_ext}
use Rattle.dns_model.specs.Names.{Labels, folded, name_eq}
use Rattle.dns_model.specs.Keys as keys
use Rattle.dns_model.specs.Keys.{AnchorValue, bytes_eq, is_anchor, holds_anchor, anchored, AcceptedSignatureValue}
use Rattle.dns_model.specs.Views.{DnskeyValue, dnskey_in}
use Rattle.dns_model.specs.Serial.{timely}
use Rattle.dns_model.specs.Chains.{Judge, judge}
use Rattle.dns_model.proofs.NameLemmas.{name_eq-Decides}
use Rattle.dns_evidence.specs.Listing.{ListedValue, is_entry, is_listed, answers_of, with_algorithm, with_accepted}
use Rattle.dns_trust.specs.Anchoring.{with_anchor}
use Rattle.dns_evidence.proofs.Alike.{entry_same}
use Rattle.dns_session.specs.SessionValue.{SessionValue}
use Rattle.dns_session_lookup.specs.Adding.{with_algorithms, with_accepts, listed_by, with_anchors, trusted_by}
use Rattle.dns_session_lookup.specs.Soundness.{session_judge}
use Rattle.dns_session_lookup.specs.Verifying.{listing, session_answers}
use Rattle.dns_session_lookup.specs.declared.verification.Verification.{Verification}
use Rattle.dns_model.proofs.ViewSteps.{anchored_by}

-- an element that doesn't count, or that is there already, may be left out of a test of a list
left_out : (counts is here rest : Bool) → (is ≡ true → (counts ≡ false) ⊎ (here ≡ true))
    → (counts && (here || rest)) ≡ (counts && (here || (is || rest)))
left_out false is here rest h = refl
left_out true is true rest h = refl
left_out true false false rest h = refl
left_out true true false rest h = elim (h refl) [ inl e ↦ cc | inr e ↦ cc ]

-- the same, for lists
skipped : {X : Type 0} (counts : Bool) (is : X → Bool) (xs : List X) (x : X) (more : List X)
    → (is x ≡ true → (counts ≡ false) ⊎ (list_any is xs ≡ true))
    → (counts && list_any is (xs ++ more)) ≡ (counts && list_any is (xs ++ x ∷ more))
skipped counts is xs x more h =
    ap (λ b. counts && b) (list_any-append is xs more)
    ∙ left_out counts (is x) (list_any is xs) (list_any is more) h
    ∙ ap (λ b. counts && b) (sym (list_any-append is xs (x ∷ more)))

-- one element is put at the end
put : {X : Type 0} (xs : List X) (x : X) (more : List X) → ((xs ++ x ∷ []) ++ more) ≡ (xs ++ x ∷ more)
put xs x more = append_assoc xs (x ∷ []) more

-- ---- algorithms

supports_in : List ℕ → ℕ → Bool
supports_in algorithms n = not (n == 1) && list_any (λ a. n == a) algorithms

-- an algorithm that is left out
algorithm_out : (algorithms : List ℕ) (a : ℕ) (n : ℕ) → ((a == 1) || list_any (λ x. a == x) algorithms) ≡ true
    → (n == a) ≡ true
    → (not (n == 1) ≡ false) ⊎ (list_any (λ x. n == x) algorithms ≡ true)
algorithm_out algorithms a n out is =
    let same : a ≡ n = sym (eqb-true n a is) in
    elim (or_cases (a == 1) (list_any (λ x. a == x) algorithms) out) [
      | inl one ↦ inl (ap (λ k. not (k == 1)) (sym same) ∙ ap not one)
      | inr there ↦ inr (ap (λ k. list_any (λ x. k == x) algorithms) (sym same) ∙ there)
    ]

supports_after : (listed : ListedValue) (a : ℕ) (more : List ℕ) (n : ℕ) (out : Bool)
    → ((a == 1) || is_listed listed a) ≡ out
    → supports_in ((cond out listed (record listed { algorithms = listed.algorithms ++ a ∷ [] })).algorithms ++ more) n
    ≡ supports_in (listed.algorithms ++ a ∷ more) n
unfolding supports_in
supports_after listed a more n true is =
    skipped (not (n == 1)) (λ x. n == x) listed.algorithms a more (algorithm_out listed.algorithms a n is)
supports_after listed a more n false is = ap (λ xs. supports_in xs n) (put listed.algorithms a more)

supports_added : (listed : ListedValue) (algorithms : List ℕ) (n : ℕ)
    → supports_in (with_algorithms listed algorithms).algorithms n ≡ supports_in (listed.algorithms ++ algorithms) n
unfolding with_algorithms
supports_added listed [] n = ap (λ xs. supports_in xs n) (sym (append-nil listed.algorithms))
supports_added listed (a ∷ more) n =
    supports_added (with_algorithm listed a) more n
    ∙ supports_after listed a more n ((a == 1) || is_listed listed a) refl

-- algorithms leave the signatures as they are
accepted_after : (listed : ListedValue) (a : ℕ) (out : Bool)
    → (cond out listed (record listed { algorithms = listed.algorithms ++ a ∷ [] })).accepted ≡ listed.accepted
accepted_after listed a true = refl
accepted_after listed a false = refl

accepted_kept : (listed : ListedValue) (algorithms : List ℕ)
    → (with_algorithms listed algorithms).accepted ≡ listed.accepted
unfolding with_algorithms
accepted_kept listed [] = refl
accepted_kept listed (a ∷ more) =
    accepted_kept (with_algorithm listed a) more ∙ accepted_after listed a ((a == 1) || is_listed listed a)

-- ---- signatures

accepts_in : List AcceptedSignatureValue → AcceptedSignatureValue → Bool
accepts_in entries sought = not (sought.algorithm == 1) && list_any (is_entry sought) entries

-- a signature that is left out
entry_out : (entry sought : AcceptedSignatureValue) → (entry.algorithm == 1) ≡ true → is_entry sought entry ≡ true
    → not (sought.algorithm == 1) ≡ false
entry_out entry sought one is = ap (λ e. not (e.algorithm == 1)) (entry_same sought entry is) ∙ ap not one

accepts_after : (listed : ListedValue) (entry : AcceptedSignatureValue) (more : List AcceptedSignatureValue)
    (sought : AcceptedSignatureValue) (out : Bool)
    → (entry.algorithm == 1) ≡ out
    → accepts_in
    ((cond out listed (record listed { accepted = listed.accepted ++ entry ∷ [] })).accepted ++ more) sought
    ≡ accepts_in (listed.accepted ++ entry ∷ more) sought
unfolding accepts_in
accepts_after listed entry more sought true is =
    skipped (not (sought.algorithm == 1)) (is_entry sought) listed.accepted entry more
    (λ same. inl (entry_out entry sought is same))
accepts_after listed entry more sought false is = ap (λ xs. accepts_in xs sought) (put listed.accepted entry more)

accepts_added : (listed : ListedValue) (accepts : List AcceptedSignatureValue) (sought : AcceptedSignatureValue)
    → accepts_in (with_accepts listed accepts).accepted sought ≡ accepts_in (listed.accepted ++ accepts) sought
unfolding with_accepts
accepts_added listed [] sought = ap (λ xs. accepts_in xs sought) (sym (append-nil listed.accepted))
accepts_added listed (a ∷ more) sought =
    accepts_added (with_accepted listed a) more sought
    ∙ accepts_after listed a more sought (a.algorithm == 1) refl

-- signatures leave the algorithms as they are
algorithms_after : (listed : ListedValue) (entry : AcceptedSignatureValue) (out : Bool)
    → (cond out listed (record listed { accepted = listed.accepted ++ entry ∷ [] })).algorithms ≡ listed.algorithms
algorithms_after listed entry true = refl
algorithms_after listed entry false = refl

algorithms_kept : (listed : ListedValue) (accepts : List AcceptedSignatureValue)
    → (with_accepts listed accepts).algorithms ≡ listed.algorithms
unfolding with_accepts
algorithms_kept listed [] = refl
algorithms_kept listed (a ∷ more) =
    algorithms_kept (with_accepted listed a) more ∙ algorithms_after listed a (a.algorithm == 1)

-- ---- the verifier

none_listed : ListedValue
none_listed = record { algorithms = []; accepted = [] }

supports_same : (algorithms : List ℕ) (accepts : List AcceptedSignatureValue) (n : ℕ)
    → supports_in (listed_by algorithms accepts).algorithms n ≡ supports_in algorithms n
unfolding none_listed
supports_same algorithms accepts n =
    ap (λ xs. supports_in xs n) (algorithms_kept (with_algorithms none_listed algorithms) accepts)
    ∙ supports_added none_listed algorithms n

accepts_same : (algorithms : List ℕ) (accepts : List AcceptedSignatureValue) (sought : AcceptedSignatureValue)
    → accepts_in (listed_by algorithms accepts).accepted sought ≡ accepts_in accepts sought
unfolding none_listed
accepts_same algorithms accepts sought =
    accepts_added (with_algorithms none_listed algorithms) accepts sought
    ∙ ap (λ xs. accepts_in (xs ++ accepts) sought) (accepted_kept none_listed algorithms)

supports_all : (algorithms : List ℕ) (accepts : List AcceptedSignatureValue)
    → (answers_of (listed_by algorithms accepts)).supports ≡ (answers_of (listing algorithms accepts)).supports
unfolding supports_in
supports_all algorithms accepts = fun_ext λ n. supports_same algorithms accepts n

accepts_all : (algorithms : List ℕ) (accepts : List AcceptedSignatureValue)
    → (answers_of (listed_by algorithms accepts)).accepts ≡ (answers_of (listing algorithms accepts)).accepts
unfolding accepts_in
accepts_all algorithms accepts =
    fun_ext λ n. fun_ext λ key. fun_ext λ bytes. fun_ext λ signature.
    accepts_same algorithms accepts (record { algorithm = n; key = key; bytes = bytes; signature = signature })

answering : (ℕ → Bool) → (ℕ → List ℕ → List ℕ → List ℕ → Bool) → keys.VerifierAnswers
answering supports accepts = record { supports = supports; accepts = accepts }

-- the verifier that the loops make answers as the plain lists say
listed_plain : (algorithms : List ℕ) (accepts : List AcceptedSignatureValue)
    → answers_of (listed_by algorithms accepts) ≡ answers_of (listing algorithms accepts)
unfolding answering
listed_plain algorithms accepts = ap₂ answering (supports_all algorithms accepts) (accepts_all algorithms accepts)

-- the verifier that the two loops made, one after the other
pub listed_made : (none made all : ListedValue) (algorithms : List ℕ) (accepts : List AcceptedSignatureValue)
    → none ≡ record { algorithms = []; accepted = [] } → made ≡ with_algorithms none algorithms
    → all ≡ with_accepts made accepts
    → answers_of all ≡ answers_of (listing algorithms accepts)
listed_made none made all algorithms accepts is first second = rw (second, first, is) (listed_plain algorithms accepts)

-- one more signature
pub accepts_more : (listed : ListedValue) (accepts : List AcceptedSignatureValue) (a : AcceptedSignatureValue)
    → with_accepts listed (accepts ++ a ∷ []) ≡ with_accepted (with_accepts listed accepts) a
unfolding with_accepts
accepts_more listed [] a = refl
accepts_more listed (x ∷ more) a = accepts_more (with_accepted listed x) more a

-- ---- anchors

-- an anchor that is left out
anchor_out : (trusted : List AnchorValue) (a : AnchorValue) (owner : Labels) (n : ℕ) (key : List ℕ)
    → holds_anchor trusted a.owner a.algorithm a.key ≡ true → is_anchor owner n key a ≡ true
    → holds_anchor trusted owner n key ≡ true
anchor_out trusted a owner n key there is =
    let one = and_parts (name_eq owner a.owner) ((n == a.algorithm) && bytes_eq key a.key) is in
    let two = and_parts (n == a.algorithm) (bytes_eq key a.key) one.1 in
    ap (λ name. list_any
    (λ (x : AnchorValue). pointwise (pointwise nat_eq) name (folded x.owner) &&
    ((n == x.algorithm) && bytes_eq key x.key)) trusted)
    ((name_eq-Decides owner a.owner).0 one.0)
    ∙ ap (λ k. list_any
    (λ (x : AnchorValue). name_eq a.owner x.owner && ((k == x.algorithm) && bytes_eq key x.key)) trusted)
    (eqb-true n a.algorithm two.0)
    ∙ ap (λ k. holds_anchor trusted a.owner a.algorithm k) ((bytes_eq-Decides key a.key).0 two.1)
    ∙ there

anchor_after : (trusted : List AnchorValue) (a : AnchorValue) (more : List AnchorValue) (owner : Labels) (n : ℕ)
    (key : List ℕ) (out : Bool)
    → holds_anchor trusted a.owner a.algorithm a.key ≡ out
    → holds_anchor (cond out trusted (trusted ++ a ∷ []) ++ more) owner n key ≡ holds_anchor
    (trusted ++ a ∷ more) owner n key
anchor_after trusted a more owner n key true is =
    skipped true (is_anchor owner n key) trusted a more (λ same. inr (anchor_out trusted a owner n key is same))
anchor_after trusted a more owner n key false is = ap (λ xs. holds_anchor xs owner n key) (put trusted a more)

anchors_added : (trusted anchors : List AnchorValue) (owner : Labels) (n : ℕ) (key : List ℕ)
    → holds_anchor (with_anchors trusted anchors) owner n key ≡ holds_anchor (trusted ++ anchors) owner n key
unfolding with_anchors
anchors_added trusted [] owner n key = ap (λ xs. holds_anchor xs owner n key) (sym (append-nil trusted))
anchors_added trusted (a ∷ more) owner n key =
    anchors_added (with_anchor trusted a) more owner n key
    ∙ anchor_after trusted a more owner n key (holds_anchor trusted a.owner a.algorithm a.key) refl

anchored_read : (anchors : List AnchorValue) (owner : Labels) (key : Option DnskeyValue)
    → anchored_by (trusted_by anchors) owner key ≡ anchored_by anchors owner key
anchored_read anchors owner None = refl
anchored_read anchors owner (Some key) = anchors_added [] anchors owner key.algorithm key.key

-- one more anchor
pub anchors_more : (trusted anchors : List AnchorValue) (a : AnchorValue)
    → with_anchors trusted (anchors ++ a ∷ []) ≡ with_anchor (with_anchors trusted anchors) a
unfolding with_anchors
anchors_more trusted [] a = refl
anchors_more trusted (x ∷ more) a = anchors_more (with_anchor trusted x) more a

-- a key is trusted as the plain list says
trusted_plain : (anchors : List AnchorValue) → anchored (trusted_by anchors) ≡ anchored anchors
trusted_plain anchors = fun_ext λ owner. fun_ext λ key. anchored_read anchors owner (dnskey_in key)

-- the keys that the loop made
pub trusted_made : (trusted anchors : List AnchorValue) → trusted ≡ trusted_by anchors
    → anchored trusted ≡ anchored anchors
trusted_made trusted anchors is = rw is (trusted_plain anchors)

-- ---- the judge

judged_by : keys.VerifierAnswers → (Labels → List ℕ → Bool) → ℕ → Judge
judged_by answers is_anchored now = record {
  answers = answers;
  is_anchored = is_anchored;
  is_timely = λ sig. timely sig now;
}

-- what a session's judge is made of is its own
pub judge_plain : (how : Verification) (s : SessionValue) (answers : keys.VerifierAnswers) (anchors : List AnchorValue)
    → answers ≡ session_answers how s → anchored anchors ≡ anchored s.anchors
    → judge answers anchors s.moment ≡ session_judge how s
unfolding judged_by
judge_plain how s answers anchors listed by = ap₂ (λ answers is_anchored. judged_by answers is_anchored s.moment) listed by
