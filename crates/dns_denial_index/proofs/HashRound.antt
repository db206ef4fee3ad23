-- NSEC3 records around a hash: those that reach it short of the greatest hash, and those that reach it past that one.
use Rattle.std.proofs.Common.{◌≡◌, ℕ, Bool, true, false, not, ◌&&◌, ◌||◌, cond, List, refl, sym, ap}
use Rattle.std.proofs.lemmas.Bool.{true≢false, false≢true, and_parts, and_from, not-true}
use Rattle.dns_model.specs.Owned.{OwnedNsec3}
use Rattle.dns_rules.specs.Nsec3Covering.{is_considered, owner_hash, hash_before, lies_between, nsec3_spans, is_farther}
use Rattle.dns_denial_index.proofs.PlaceOrder.{before_then, not_back}

-- the hash comes behind the owner's, and before the next one where that comes behind the owner's too
abbrev pub reaches : Bool → Bool → Bool → Bool
reaches forward after before = after && cond forward before true

abbrev pub near : List ℕ → OwnedNsec3 → Bool
near hash nsec3 =
    is_considered nsec3 && reaches (hash_before (owner_hash nsec3) nsec3.fields.next)
    (hash_before (owner_hash nsec3) hash)
    (hash_before hash nsec3.fields.next)

-- the next hash doesn't come behind the owner's, and the hash comes before it
abbrev pub far : List ℕ → OwnedNsec3 → Bool
far hash nsec3 =
    is_considered nsec3 && (not (hash_before (owner_hash nsec3) nsec3.fields.next) && hash_before hash
    nsec3.fields.next)

-- ---- what each of the two says

near_between : (forward after before : Bool) → after ≡ true → cond forward before true ≡ true
    → cond forward (after && before) (after || before) ≡ true
near_between true true before h k = k
near_between true false before h k = absurd (false≢true h)
near_between false true before h k = refl
near_between false false before h k = absurd (false≢true h)

pub record IsNear (hash : List ℕ) (nsec3 : OwnedNsec3) : Type 0 where
  pub considered : is_considered nsec3 ≡ true
  pub after : hash_before (owner_hash nsec3) hash ≡ true
  pub spans : nsec3_spans hash nsec3 ≡ true

pub near_is : (hash : List ℕ) (nsec3 : OwnedNsec3) → near hash nsec3 ≡ true → IsNear hash nsec3
near_is hash nsec3 h =
    let forward = hash_before (owner_hash nsec3) nsec3.fields.next in
    let after = hash_before (owner_hash nsec3) hash in
    let before = hash_before hash nsec3.fields.next in
    let parts = and_parts (is_considered nsec3) (reaches forward after before) h in
    let more = and_parts after (cond forward before true) parts.1 in
    record {
      considered = parts.0;
      after = more.0;
      spans = and_from (is_considered nsec3) (lies_between (owner_hash nsec3) nsec3.fields.next hash) parts.0
          (near_between forward after before more.0 more.1);
    }

far_between : (forward after before : Bool) → forward ≡ false → before ≡ true
    → cond forward (after && before) (after || before) ≡ true
far_between true after before h k = absurd (true≢false h)
far_between false true before h k = refl
far_between false false before h k = k

pub record IsFar (hash : List ℕ) (nsec3 : OwnedNsec3) : Type 0 where
  pub considered : is_considered nsec3 ≡ true
  pub after : hash_before (owner_hash nsec3) hash ≡ false
  pub spans : nsec3_spans hash nsec3 ≡ true

pub far_is : (hash : List ℕ) (nsec3 : OwnedNsec3) → far hash nsec3 ≡ true → IsFar hash nsec3
far_is hash nsec3 h =
    let owner = owner_hash nsec3 in
    let next = nsec3.fields.next in
    let parts = and_parts (is_considered nsec3) (not (hash_before owner next) && hash_before hash next) h in
    let more = and_parts (not (hash_before owner next)) (hash_before hash next) parts.1 in
    let round : hash_before owner next ≡ false = not-true (hash_before owner next) more.0 in
    record {
      considered = parts.0;
      after = not_back hash owner (before_then next owner hash round more.1);
      spans = and_from (is_considered nsec3) (lies_between owner next hash) parts.0
          (far_between (hash_before owner next) (hash_before owner hash) (hash_before hash next) round more.1);
    }

neither_by : (considered forward after before : Bool) → (considered && reaches forward after before) ≡ false
    → (considered && (not forward && before)) ≡ false
    → (considered && cond forward (after && before) (after || before)) ≡ false
neither_by false forward after before h k = refl
neither_by true true after before h k = h
neither_by true false true before h k = absurd (true≢false h)
neither_by true false false before h k = k

-- a record that is neither doesn't span the hash
pub neither : (hash : List ℕ) (nsec3 : OwnedNsec3) → near hash nsec3 ≡ false → far hash nsec3 ≡ false
    → nsec3_spans hash nsec3 ≡ false
neither hash nsec3 h k =
    neither_by (is_considered nsec3) (hash_before (owner_hash nsec3) nsec3.fields.next)
    (hash_before (owner_hash nsec3) hash) (hash_before hash nsec3.fields.next) h k

-- ---- which of two is the nearer one

-- by whether the other one spans the hash, whether each one's owner is before it, and which owner is before the other
abbrev pub nearer_by : Bool → Bool → Bool → Bool → Bool
nearer_by spans after other_after less = spans && cond after (less && other_after) (less || other_after)

both_near : (spans after other_after less : Bool) → spans ≡ true → after ≡ true → other_after ≡ true
    → less ≡ nearer_by spans after other_after less
both_near false after other_after less h k l = absurd (false≢true h)
both_near true false other_after less h k l = absurd (false≢true k)
both_near true true false less h k l = absurd (false≢true l)
both_near true true true true h k l = refl
both_near true true true false h k l = refl

both_far : (spans after other_after less : Bool) → spans ≡ true → after ≡ false → other_after ≡ false
    → less ≡ nearer_by spans after other_after less
both_far false after other_after less h k l = absurd (false≢true h)
both_far true true other_after less h k l = absurd (true≢false k)
both_far true false true less h k l = absurd (true≢false l)
both_far true false false true h k l = refl
both_far true false false false h k l = refl

far_behind : (spans after other_after less : Bool) → after ≡ true → other_after ≡ false
    → false ≡ nearer_by spans after other_after less
far_behind spans false other_after less h k = absurd (false≢true h)
far_behind spans true true less h k = absurd (true≢false k)
far_behind true true false true h k = refl
far_behind true true false false h k = refl
far_behind false true false less h k = refl

near_ahead : (spans after other_after less : Bool) → spans ≡ true → after ≡ false → other_after ≡ true
    → not (nearer_by spans after other_after less) ≡ false
near_ahead false after other_after less h k l = absurd (false≢true h)
near_ahead true true other_after less h k l = absurd (true≢false k)
near_ahead true false false less h k l = absurd (false≢true l)
near_ahead true false true true h k l = refl
near_ahead true false true false h k l = refl

-- none is nearer to the hash than a near one but a near one whose owner comes later
pub nearer_than_near : (hash : List ℕ) (one other : OwnedNsec3) → near hash one ≡ true
    → (near hash other && hash_before (owner_hash one) (owner_hash other))
    ≡ (nsec3_spans hash other && is_farther hash one other)
nearer_than_near hash one other is = by (near hash other) (far hash other) refl refl
  where
    by : (b c : Bool) → near hash other ≡ b → far hash other ≡ c
        → (b && hash_before (owner_hash one) (owner_hash other)) ≡ (nsec3_spans hash other && is_farther hash one other)
    by true c e f =
        let n = near_is hash other e in
        both_near (nsec3_spans hash other) (hash_before (owner_hash one) hash) (hash_before (owner_hash other) hash)
        (hash_before (owner_hash one) (owner_hash other)) n.spans (near_is hash one is).after n.after
    by false true e f =
        far_behind (nsec3_spans hash other) (hash_before (owner_hash one) hash) (hash_before (owner_hash other) hash)
        (hash_before (owner_hash one) (owner_hash other)) (near_is hash one is).after (far_is hash other f).after
    by false false e f = sym (ap (λ b. b && is_farther hash one other) (neither hash other e f))

-- where none is near, none is nearer than a far one but a far one whose owner comes later
pub nearer_than_far : (hash : List ℕ) (one other : OwnedNsec3) → far hash one ≡ true → near hash other ≡ false
    → (far hash other && hash_before (owner_hash one) (owner_hash other))
    ≡ (nsec3_spans hash other && is_farther hash one other)
nearer_than_far hash one other is none = by (far hash other) refl
  where
    by : (c : Bool) → far hash other ≡ c
        → (c && hash_before (owner_hash one) (owner_hash other)) ≡ (nsec3_spans hash other && is_farther hash one other)
    by true f =
        let o = far_is hash other f in
        both_far (nsec3_spans hash other) (hash_before (owner_hash one) hash) (hash_before (owner_hash other) hash)
        (hash_before (owner_hash one) (owner_hash other)) o.spans (far_is hash one is).after o.after
    by false f = sym (ap (λ b. b && is_farther hash one other) (neither hash other none f))

-- a near one is nearer than a far one
pub near_before_far : (hash : List ℕ) (one other : OwnedNsec3) → far hash one ≡ true → near hash other ≡ true
    → not (nsec3_spans hash other && is_farther hash one other) ≡ false
near_before_far hash one other is e =
    let n = near_is hash other e in
    near_ahead (nsec3_spans hash other) (hash_before (owner_hash one) hash) (hash_before (owner_hash other) hash)
    (hash_before (owner_hash one) (owner_hash other)) n.spans (far_is hash one is).after n.after
