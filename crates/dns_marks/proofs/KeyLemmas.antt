-- Keys in turn, and key sets by the rows that decide them.
use Rattle.std.proofs.Common.{◌≡◌, ℕ, ◌+◌, ◌<◌, ◌≤◌, Bool, true, false, not, ◌==◌, ◌&&◌, ◌||◌, List, [], ◌∷◌, length, drop, Option, None, Some, refl, sym, ap, ◌∙◌, arith}
use Rattle.std.specs.Prelude.{if◌then◌else◌, slice_index_or, slice_get, is_some}
use Rattle.std.specs.Option.{option_map_or}
use Rattle.std.specs.List.{list_any, list_all}
use Rattle.std.specs.Borrow.{Bor}
use Rattle.std.proofs.lemmas.List.{drop_more, drop_all}
use Rattle.std.proofs.lemmas.Bool.{and_right}
use Rattle.std.proofs.lemmas.Bool.Decides.{nat_tests}
use Rattle.dns_model.specs.declared.proof.Proof.{Proof}
use Rattle.dns_model.specs.declared.proof.Proof.TheVariants as proof
use Rattle.dns_model.specs.Records.{Rr, RrSet}
use Rattle.dns_model.specs.Keys.{VerifierAnswers}
use Rattle.dns_model.specs.Chains.{Judge}
use Rattle.dns_rules.specs.ProofErrors.{ProofErrorKindValue, DnskeyNotFound}
use Rattle.dns_rules.specs.Delegations.{ZoneVerdict}
use Rattle.dns_rules.specs.KeySets.{KeysOutcome, SignedKeys, SignedByAnchored, WhollyAnchored, NeedsDs, Refused, is_needing_ds, is_anchored_key, signed_by, is_root, keys_outcome, outcome_by_verdict}
use Rattle.dns_trust.specs.Delegating.{shown}
use Rattle.dns_marks.specs.KeySignatures.{is_put, calls_by_key}
use Rattle.dns_marks.specs.SignatureKeys.{is_proving, calls_in_turn}
use Rattle.dns_marks.proofs.CallLemmas.{unput}

-- ---- keys in turn

-- the keys from a place on
shown_from : (keys : List (Bor Rr)) (i : ℕ) (key : Bor Rr) → i < length keys → key ≡ slice_index_or keys i key
    → shown (drop i keys) ≡ key.now ∷ shown (drop (i + 1) keys)
shown_from keys i key h is = ap shown (drop_more keys i key h ∙ ap (λ k. k ∷ drop (i + 1) keys) (sym is))

-- all of them pass where those from a place on do
pub record AllFrom (test : Rr → Bool) (keys : List (Bor Rr)) (i : ℕ) : Type 0 where
  pub left : list_all test (shown (drop i keys)) ≡ list_all test (shown keys)

pub all_first : (test : Rr → Bool) (keys : List (Bor Rr)) → AllFrom test keys 0
all_first test keys = record { left = refl }

pub all_more : (test : Rr → Bool) (keys : List (Bor Rr)) (i : ℕ) (key : Bor Rr) → i < length keys
    → key ≡ slice_index_or keys i key → AllFrom test keys i
    → test key.now ≡ true → AllFrom test keys (i + 1)
all_more test keys i key h is a passes = record {
  left = sym (ap (λ b. b && list_all test (shown (drop (i + 1) keys))) passes)
      ∙ sym (ap (list_all test) (shown_from keys i key h is)) ∙ a.left;
}

pub all_fail : (test : Rr → Bool) (keys : List (Bor Rr)) (i : ℕ) (key : Bor Rr) → i < length keys
    → key ≡ slice_index_or keys i key → AllFrom test keys i
    → test key.now ≡ false → list_all test (shown keys) ≡ false
all_fail test keys i key h is a fails =
    sym a.left ∙ ap (list_all test) (shown_from keys i key h is) ∙ ap (λ b. b && list_all test (shown (drop (i + 1) keys))) fails

pub all_end : (test : Rr → Bool) (keys : List (Bor Rr)) (i : ℕ) → length keys ≤ i → AllFrom test keys i → list_all test (shown keys) ≡ true
all_end test keys i h a = sym a.left ∙ ap (λ ks. list_all test (shown ks)) (drop_all i keys h)

-- one that fails is enough, and none at all too
pub none_insecure : (first : Option Rr) (all : Bool) → all ≡ false → false ≡ (is_some first && all)
none_insecure first all h = sym (and_right (is_some first) all h)

pub some_insecure : (keys : List (Bor Rr)) (all : Bool) (empty : Bool) → empty ≡ (length keys == 0) → all ≡ true
    → not empty ≡ (is_some (slice_get (shown keys) 0) && all)
some_insecure [] all empty is h = ap not is
some_insecure (key ∷ keys) all empty is h = let e : (length (key ∷ keys) == 0) ≡ false = grind (arith, nat_tests) in ap not (is ∙ e) ∙ sym h

-- ---- the verifier, asked in turn

-- no key so far proves the set, and the calls so far are counted
pub record InTurn (verifier : VerifierAnswers) (now : ℕ) (set : RrSet) (r : Rr) (keys : List (Bor Rr)) (i before steps : ℕ) : Type 0 where
  pub searched : list_any (is_proving verifier now set r) (shown (drop i keys)) ≡ list_any (is_proving verifier now set r) (shown keys)
  pub counted : steps + calls_in_turn verifier now set r (shown (drop i keys)) ≡ before + calls_in_turn verifier now set r (shown keys)

pub first_turn : (verifier : VerifierAnswers) (now : ℕ) (set : RrSet) (r : Rr) (keys : List (Bor Rr)) (before : ℕ)
    → InTurn verifier now set r keys 0 before before
first_turn verifier now set r keys before = record { searched = refl; counted = refl }

pub turn_of : (verifier : VerifierAnswers) (now : ℕ) (set : RrSet) (r key : Rr) (keys : List Rr)
    → calls_in_turn verifier now set r (key ∷ keys)
    ≡ (if is_proving verifier now set r key then 1 else calls_by_key verifier now set r key + calls_in_turn verifier now set r keys)
unfolding calls_in_turn
turn_of verifier now set r key keys = refl

pub none_of : (verifier : VerifierAnswers) (now : ℕ) (set : RrSet) (r : Rr) → calls_in_turn verifier now set r [] ≡ 0
unfolding calls_in_turn
none_of verifier now set r = refl

-- the calls from a place on
calls_from : (verifier : VerifierAnswers) (now : ℕ) (set : RrSet) (r : Rr) (keys : List (Bor Rr)) (i : ℕ) (key : Bor Rr)
    → i < length keys → key ≡ slice_index_or keys i key
    → calls_in_turn verifier now set r (shown (drop i keys))
    ≡ (if is_proving verifier now set r key.now then 1
    else calls_by_key verifier now set r key.now + calls_in_turn verifier now set r (shown (drop (i + 1) keys)))
calls_from verifier now set r keys i key h is =
    ap (calls_in_turn verifier now set r) (shown_from keys i key h is) ∙ turn_of verifier now set r key.now (shown (drop (i + 1) keys))

any_from : (test : Rr → Bool) (keys : List (Bor Rr)) (i : ℕ) (key : Bor Rr) → i < length keys → key ≡ slice_index_or keys i key
    → list_any test (shown (drop i keys)) ≡ (test key.now || list_any test (shown (drop (i + 1) keys)))
any_from test keys i key h is = ap (list_any test) (shown_from keys i key h is)

-- a key that proves nothing is passed over
pub next_turn : (verifier : VerifierAnswers) (now : ℕ) (set : RrSet) (r : Rr) (keys : List (Bor Rr)) (i before steps more : ℕ)
    (key : Bor Rr) → i < length keys
    → key ≡ slice_index_or keys i key → InTurn verifier now set r keys i before steps → is_proving verifier now set r key.now ≡ false
    → more ≡ steps + calls_by_key verifier now set r key.now → InTurn verifier now set r keys (i + 1) before more
next_turn verifier now set r keys i before steps more key h is t fails counted =
    let calls : calls_in_turn verifier now set r (shown (drop i keys))
    ≡ calls_by_key verifier now set r key.now + calls_in_turn verifier now set r (shown (drop (i + 1) keys)) =
    calls_from verifier now set r keys i key h is
    ∙ ap (λ b. if b then 1 else calls_by_key verifier now set r key.now + calls_in_turn verifier now set r (shown (drop (i + 1) keys)))
    fails in
    record {
      searched = sym (any_from (is_proving verifier now set r) keys i key h is
          ∙ ap (λ b. b || list_any (is_proving verifier now set r) (shown (drop (i + 1) keys))) fails) ∙ t.searched;
      counted = omega (arith, calls, t.counted, counted);
    }

put_case : (proves put : Bool) → (put ≡ false → proves ≡ false) → proves ≡ true → ◌≡◌ {A = ℕ} (if put then 1 else 0) 1
put_case proves true h good = refl
put_case proves false h good = let e : true ≡ false = sym good ∙ h refl in cc

-- a key that proves the set was asked for
one_call : (verifier : VerifierAnswers) (now : ℕ) (set : RrSet) (r key : Rr) → is_proving verifier now set r key ≡ true
    → calls_by_key verifier now set r key ≡ 1
one_call verifier now set r key good =
    put_case (is_proving verifier now set r key) (is_put verifier now set r key) (unput verifier now set r key) good

pub found_turn : (verifier : VerifierAnswers) (now : ℕ) (set : RrSet) (r : Rr) (keys : List (Bor Rr)) (i before steps : ℕ) (key : Bor Rr)
    → i < length keys
    → key ≡ slice_index_or keys i key → InTurn verifier now set r keys i before steps → is_proving verifier now set r key.now ≡ true
    → list_any (is_proving verifier now set r) (shown keys) ≡ true
found_turn verifier now set r keys i before steps key h is t good =
    sym t.searched ∙ any_from (is_proving verifier now set r) keys i key h is
    ∙ ap (λ b. b || list_any (is_proving verifier now set r) (shown (drop (i + 1) keys))) good

pub found_calls : (verifier : VerifierAnswers) (now : ℕ) (set : RrSet) (r : Rr) (keys : List (Bor Rr)) (i before steps more : ℕ)
    (key : Bor Rr) → i < length keys
    → key ≡ slice_index_or keys i key → InTurn verifier now set r keys i before steps → is_proving verifier now set r key.now ≡ true
    → more ≡ steps + calls_by_key verifier now set r key.now → more ≡ before + calls_in_turn verifier now set r (shown keys)
found_calls verifier now set r keys i before steps more key h is t good counted =
    let calls : calls_in_turn verifier now set r (shown (drop i keys)) ≡ 1 =
    calls_from verifier now set r keys i key h is
    ∙ ap (λ b. if b then 1 else calls_by_key verifier now set r key.now + calls_in_turn verifier now set r (shown (drop (i + 1) keys)))
    good in
    let one : calls_by_key verifier now set r key.now ≡ 1 = one_call verifier now set r key.now good in
    omega (arith, calls, one, t.counted, counted)

most_case : (b put : Bool) (rest : ℕ) → (if put then 1 else 0) ≤ (if b then 1 else (if put then 1 else 0) + rest)
most_case true true rest = omega arith
most_case true false rest = omega arith
most_case false put rest = omega arith

-- a call that memory cuts short is one of those
pub cut_turn : (verifier : VerifierAnswers) (now : ℕ) (set : RrSet) (r : Rr) (keys : List (Bor Rr)) (i before steps more : ℕ)
    (key : Bor Rr) → i < length keys
    → key ≡ slice_index_or keys i key → InTurn verifier now set r keys i before steps
    → more ≤ steps + calls_by_key verifier now set r key.now
    → more ≤ before + calls_in_turn verifier now set r (shown keys)
cut_turn verifier now set r keys i before steps more key h is t most =
    let calls = calls_from verifier now set r keys i key h is in
    let least : calls_by_key verifier now set r key.now ≤ calls_in_turn verifier now set r (shown (drop i keys)) =
    rw calls (most_case (is_proving verifier now set r key.now) (is_put verifier now set r key.now)
    (calls_in_turn verifier now set r (shown (drop (i + 1) keys)))) in
    omega (arith, least, t.counted, most)

pub last_turn : (verifier : VerifierAnswers) (now : ℕ) (set : RrSet) (r : Rr) (keys : List (Bor Rr)) (i before steps : ℕ) → length keys ≤ i
    → InTurn verifier now set r keys i before steps → false ≡ list_any (is_proving verifier now set r) (shown keys)
last_turn verifier now set r keys i before steps h t =
    sym (ap (λ ks. list_any (is_proving verifier now set r) (shown ks)) (drop_all i keys h)) ∙ t.searched

pub last_calls : (verifier : VerifierAnswers) (now : ℕ) (set : RrSet) (r : Rr) (keys : List (Bor Rr)) (i before steps : ℕ) → length keys ≤ i
    → InTurn verifier now set r keys i before steps → steps ≡ before + calls_in_turn verifier now set r (shown keys)
last_calls verifier now set r keys i before steps h t =
    let none : calls_in_turn verifier now set r (shown (drop i keys)) ≡ 0 =
    ap (λ ks. calls_in_turn verifier now set r (shown ks)) (drop_all i keys h) ∙ none_of verifier now set r in
    omega (arith, none, t.counted)

-- ---- the rows of a key set

row_case : (set : RrSet) (signed : Option SignedKeys) (whole root : Bool) (last own : KeysOutcome) (mark : Proof)
    (kind : ProofErrorKindValue)
    → own ≡ option_map_or SignedByAnchored signed (if whole then WhollyAnchored else if root then Refused mark kind else NeedsDs)
    → is_needing_ds own ≡ false
    → option_map_or SignedByAnchored signed (if whole then WhollyAnchored else if root then Refused mark kind else last) ≡ own
row_case set (Some signed) whole root last own mark kind is decided = sym is
row_case set None true root last own mark kind is decided = sym is
row_case set None false true last own mark kind is decided = sym is
row_case set None false false last own mark kind is decided = let e : true ≡ false = sym (ap is_needing_ds is) ∙ decided in cc

-- a row that decides without the DS verdict of the owner decides with it
pub by_row : (j : Judge) (set : RrSet) (zone : Option ZoneVerdict) (own : KeysOutcome) → own ≡ keys_outcome j set None
    → is_needing_ds own ≡ false
    → keys_outcome j set zone ≡ own
unfolding keys_outcome
by_row j set zone own is decided =
    row_case set (signed_by (is_anchored_key j set) j set) (list_all (is_anchored_key j set) set.records) (is_root set.owner)
    (outcome_by_verdict j set zone) own
    proof.Bogus (DnskeyNotFound set.owner) is decided
