-- How long a message is that is written, and its sections piece by piece.
use Rattle.std.proofs.Common.{◌≡◌, ℕ, ◌+◌, ◌≤◌, ◌<◌, Bool, true, false, ◌||◌, List, [], ◌∷◌, ◌++◌, length, Option, None, Some, Err, refl, sym, ap, ◌∙◌, take, get_or, append_assoc, arith, length-append}
use Rattle.std.specs.Prelude.{nat_le, nat_lt}
use Rattle.std.specs.List.{flat_map}
use Rattle.std.proofs.lemmas.Bool.Decides.{nat_tests}
use Rattle.std.proofs.lemmas.Grind.{flat_map-append}
use Rattle.std.proofs.lemmas.List.{append-nil, take_all, take_more}
use Rattle.std.proofs.lemmas.List.Concat.{flat_map-cons}
use Rattle.dns_model.specs.Names.{wire}
use Rattle.dns_model.specs.Bytes.{u16_bytes, u32_bytes}
use Rattle.dns_model.specs.Records.{Rr, Question, EdnsValue, MessageValue}
use Rattle.dns_model.proofs.WireLemmas.{length-wire}
use Rattle.dns_message.specs.declared.encode_error.EncodeError.TheVariants.{TooLong}
use Rattle.dns_message.specs.WrittenAs.{question_bytes, record_bytes, edns_bytes, edns_count, has_long_options, has_many, written, encoded, opt_ttl}

-- a piece more
pub pieces_more : {X : Type 0} (f : X → List ℕ) (xs : List X) (i : ℕ) (x : X) (front all more : List ℕ) → i < length xs → x ≡ get_or xs i x
    → all ≡ front ++ flat_map f (take i xs) → more ≡ all ++ f x → more ≡ front ++ flat_map f (take (i + 1) xs)
pieces_more f xs i x front all more lt item before grown =
    let one : flat_map f (get_or xs i x ∷ []) ≡ f x = flat_map-cons f (get_or xs i x) [] ∙ append-nil (f (get_or xs i x))
    ∙ ap f (sym item) in
    let last : flat_map f (take (i + 1) xs) ≡ flat_map f (take i xs) ++ f x =
    ap (flat_map f) (take_more xs i x lt) ∙ flat_map-append f (take i xs) (get_or xs i x ∷ [])
    ∙ ap (λ (l : List ℕ). flat_map f (take i xs) ++ l) one in
    grown ∙ ap (λ (l : List ℕ). l ++ f x) before ∙ append_assoc front (flat_map f (take i xs)) (f x)
    ∙ ap (λ (l : List ℕ). front ++ l) (sym last)

-- no piece is left
pub pieces_all : {X : Type 0} (f : X → List ℕ) (xs : List X) (i : ℕ) (front all : List ℕ) → length xs ≤ i
    → all ≡ front ++ flat_map f (take i xs) → all ≡ front ++ flat_map f xs
pieces_all {X} f xs i front all past so_far = so_far ∙ ap (λ (l : List X). front ++ flat_map f l) (take_all i xs past)

-- no piece is empty
pub long_enough : {X : Type 0} (f : X → List ℕ) → ((x : X) → 0 < length (f x)) → (xs : List X) → length xs ≤ length (flat_map f xs)
long_enough f some [] = omega arith
long_enough f some (x ∷ xs) = omega (
  arith,
  some x,
  long_enough f some xs,
  ap length (flat_map-cons f x xs),
  length-append (f x) (flat_map f xs),
)

some_question : (q : Question) → 0 < length (question_bytes q)
some_question q = omega (arith, length-wire q.owner, length-append (wire q.owner ++ u16_bytes q.rtype) (u16_bytes q.class))

some_record : (r : Rr) → 0 < length (record_bytes r)
some_record r = omega (
  arith,
  length-append (wire r.owner ++ u16_bytes r.rtype ++ u16_bytes r.class ++ u32_bytes r.ttl ++ u16_bytes (length r.rdata)) r.rdata,
  length-append (wire r.owner ++ u16_bytes r.rtype ++ u16_bytes r.class ++ u32_bytes r.ttl) (u16_bytes (length r.rdata)),
)

-- the parts of a written message
pub record IsLong (m : MessageValue) : Type 0 where
  pub whole : length m.queries + length m.answers + length m.authorities + length m.additionals + length
      (edns_bytes m.response_code m.edns) ≤ length (written m)

pub written_length : (m : MessageValue) → IsLong m
unfolding written
written_length m =
    let q = long_enough question_bytes some_question m.queries in
    let a = long_enough record_bytes some_record m.answers in
    let n = long_enough record_bytes some_record m.authorities in
    let d = long_enough record_bytes some_record m.additionals in
    record { whole = simp length-append (omega (arith, q, a, n, d)) }

long_edns : (code : ℕ) (e : Option EdnsValue) → edns_count e ≤ length (edns_bytes code e)
long_edns code None = omega arith
long_edns code (Some e) = omega arith

long_options : (code : ℕ) (e : Option EdnsValue) → has_long_options e ≡ true → 65535 < length (edns_bytes code e)
long_options code None h = absurd cc
long_options code (Some e) h =
    let many : 65535 < length e.options = grind (arith, nat_tests) in
    omega (
      arith,
      many,
      length-append (wire [] ++ u16_bytes 41 ++ u16_bytes e.max_payload ++ u32_bytes (opt_ttl code e)
          ++ u16_bytes (length e.options)) e.options,
    )

-- one of five tests holds
one_of_five : {X : Type 0} (a b c d e : Bool) → (a ≡ true → X) → (b ≡ true → X) → (c ≡ true → X) → (d ≡ true → X)
    → (e ≡ true → X) → (a || b || c || d || e) ≡ true → X
one_of_five true b c d e p q r s t h = p refl
one_of_five false true c d e p q r s t h = q refl
one_of_five false false true d e p q r s t h = r refl
one_of_five false false false true e p q r s t h = s refl
one_of_five false false false false true p q r s t h = t refl
one_of_five false false false false false p q r s t h = absurd cc

above : (n : ℕ) → nat_lt 65535 n ≡ true → 65535 < n
above n h = grind (arith, nat_tests)

pub has_many_long : (m : MessageValue) → has_many m ≡ true → 65535 < length (written m)
unfolding has_many
has_many_long m h =
    let w = (written_length m).whole in
    let e = long_edns m.response_code m.edns in
    one_of_five (nat_lt 65535 (length m.queries)) (nat_lt 65535 (length m.answers)) (nat_lt 65535 (length m.authorities))
    (nat_lt 65535 (length m.additionals + edns_count m.edns)) (has_long_options m.edns)
    (λ k. let many = above (length m.queries) k in omega (arith, w, many))
    (λ k. let many = above (length m.answers) k in omega (arith, w, many))
    (λ k. let many = above (length m.authorities) k in omega (arith, w, many))
    (λ k. let many = above (length m.additionals + edns_count m.edns) k in omega (arith, w, e, many))
    (λ k. let many = long_options m.response_code m.edns k in omega (arith, w, many))
    h

pub too_many : (m : MessageValue) → has_many m ≡ true → encoded m ≡ Err TooLong
unfolding encoded
too_many m h =
    let many = has_many_long m h in
    let no : nat_le (length (written m)) 65535 ≡ false = grind (arith, nat_tests, many) in
    rw no refl
