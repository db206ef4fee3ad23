-- Hashes as text: they are read group by group, each way gives back what the other was given, and the order of the texts is
-- the order of the hashes (RFC 4648, 6 and 7; RFC 5155, 1.3).
use Rattle.std.proofs.Common.{◌≡◌, ℕ, suc, ◌+◌, ◌*◌, ◌/◌, ◌%◌, ◌<◌, ◌≤◌, true, List, [], ◌∷◌, ◌++◌, map, length, take, drop, refl, sym, ap, ◌∙◌, arith}
use Rattle.std.specs.Prelude.{nat_lt}
use Rattle.std.specs.Char.{to_ascii_lowercase}
use Rattle.std.specs.Cmp.Lexicographic.{slice_cmp}
use Rattle.std.specs.Int.Digits.{number_from_digits, number_from_digits_after, AllBelowBase}
use Rattle.std.specs.List.{list_all}
use Rattle.std.specs.Ordering.{nat_cmp, ordering_then}
use Rattle.std.proofs.lemmas.Bool.{and_parts}
use Rattle.std.proofs.lemmas.List.{map-append}
use Rattle.std.proofs.lemmas.List.Folds.{list_all-append}
use Rattle.std.proofs.lemmas.Bool.Decides.{nat_tests}
use Rattle.sha1.specs.Sha1.{sha1}
use Rattle.dns_model.specs.Bytes.{is_bytes}
use Rattle.dns_model.specs.Nsec3Hash.{iterated_hash, symbol, is_symbol, symbol_bits, groups_of_five, five_bytes, base32hex, base32hex_bytes}
use Rattle.std.proofs.lemmas.Int.Digits.{number_lt}
use Rattle.dns_model.proofs.OrderLemmas.{cmp-append, then_assoc, then_Equal}

-- ---- rounds

pub hash_first : (salt bytes : List ℕ) → iterated_hash salt bytes 0 ≡ sha1 (bytes ++ salt)
unfolding iterated_hash
hash_first salt bytes = refl

pub hash_more : (salt bytes : List ℕ) (rounds : ℕ) → iterated_hash salt bytes (rounds + 1) ≡ sha1 (iterated_hash salt bytes rounds ++ salt)
unfolding iterated_hash
hash_more salt bytes rounds = let e : rounds + 1 ≡ suc rounds = omega arith in rw e refl

-- ---- group by group

pub text_more : (bytes : List ℕ) → 5 ≤ length bytes
    → base32hex bytes ≡ map symbol (groups_of_five (number_from_digits 256 (take 5 bytes))) ++ base32hex (drop 5 bytes)
unfolding base32hex
text_more (a ∷ b ∷ c ∷ d ∷ e ∷ rest) h = refl
text_more bytes h = absurd (omega (arith, h))

pub text_end : (bytes : List ℕ) → length bytes < 5 → base32hex bytes ≡ []
unfolding base32hex
text_end (a ∷ b ∷ c ∷ d ∷ e ∷ rest) h = absurd (omega (arith, h))
text_end bytes h = refl

pub bytes_more : (text : List ℕ) → 8 ≤ length text
    → base32hex_bytes text ≡ five_bytes (number_from_digits 32 (map symbol_bits (take 8 text))) ++ base32hex_bytes (drop 8 text)
unfolding base32hex_bytes
bytes_more (a ∷ b ∷ c ∷ d ∷ e ∷ f ∷ g ∷ h ∷ rest) long = refl
bytes_more text long = absurd (omega (arith, long))

pub bytes_end : (text : List ℕ) → length text < 8 → base32hex_bytes text ≡ []
unfolding base32hex_bytes
bytes_end (a ∷ b ∷ c ∷ d ∷ e ∷ f ∷ g ∷ h ∷ rest) short = absurd (omega (arith, short))
bytes_end text short = refl

pub text_length : (bytes : List ℕ) → length (base32hex bytes) ≡ length bytes / 5 * 8
unfolding base32hex
text_length (a ∷ b ∷ c ∷ d ∷ e ∷ rest) = let more = text_length rest in omega (arith, more)
text_length bytes = omega arith

pub bytes_length : (text : List ℕ) → length (base32hex_bytes text) ≡ length text / 8 * 5
unfolding base32hex_bytes
bytes_length (a ∷ b ∷ c ∷ d ∷ e ∷ f ∷ g ∷ h ∷ rest) = let more = bytes_length rest in omega (arith, more)
bytes_length text = omega arith

-- ---- forty bits

-- as groups of five, and back
number_of_groups : (n : ℕ) → n < 1099511627776 → number_from_digits 32 (groups_of_five n) ≡ n
number_of_groups n h = omega (arith, h)

-- as bytes, and back
number_of_bytes : (n : ℕ) → n < 1099511627776 → number_from_digits 256 (five_bytes n) ≡ n
number_of_bytes n h = omega (arith, h)

groups_of_number : (a b c d e f g h : ℕ) → AllBelowBase 32 (a ∷ b ∷ c ∷ d ∷ e ∷ f ∷ g ∷ h ∷ [])
    → groups_of_five (number_from_digits 32 (a ∷ b ∷ c ∷ d ∷ e ∷ f ∷ g ∷ h ∷ [])) ≡ a ∷ b ∷ c ∷ d ∷ e ∷ f ∷ g ∷ h ∷ []
groups_of_number a b c d e f g h below =
    let n : ℕ = number_from_digits 32 (a ∷ b ∷ c ∷ d ∷ e ∷ f ∷ g ∷ h ∷ []) in
    let e0 : n / 34359738368 % 32 ≡ a = omega (arith, below) in
    let e1 : n / 1073741824 % 32 ≡ b = omega (arith, below) in
    let e2 : n / 33554432 % 32 ≡ c = omega (arith, below) in
    let e3 : n / 1048576 % 32 ≡ d = omega (arith, below) in
    let e4 : n / 32768 % 32 ≡ e = omega (arith, below) in
    let e5 : n / 1024 % 32 ≡ f = omega (arith, below) in
    let e6 : n / 32 % 32 ≡ g = omega (arith, below) in
    let e7 : n % 32 ≡ h = omega (arith, below) in
    rw (e0, e1, e2, e3, e4, e5, e6, e7) refl

bytes_of_number : (a b c d e : ℕ) → AllBelowBase 256 (a ∷ b ∷ c ∷ d ∷ e ∷ [])
    → five_bytes (number_from_digits 256 (a ∷ b ∷ c ∷ d ∷ e ∷ [])) ≡ a ∷ b ∷ c ∷ d ∷ e ∷ []
bytes_of_number a b c d e below =
    let n : ℕ = number_from_digits 256 (a ∷ b ∷ c ∷ d ∷ e ∷ []) in
    let e0 : n / 4294967296 % 256 ≡ a = omega (arith, below) in
    let e1 : n / 16777216 % 256 ≡ b = omega (arith, below) in
    let e2 : n / 65536 % 256 ≡ c = omega (arith, below) in
    let e3 : n / 256 % 256 ≡ d = omega (arith, below) in
    let e4 : n % 256 ≡ e = omega (arith, below) in
    rw (e0, e1, e2, e3, e4) refl

-- ---- symbols

symbol_read : (b : ℕ) → b < 32 → symbol_bits (symbol b) ≡ b
symbol_read b h = grind (arith, nat_tests, h)

symbol_back : (c : ℕ) → is_symbol c ≡ true → symbol (symbol_bits c) ≡ to_ascii_lowercase c
symbol_back c h = grind (arith, nat_tests, h)

symbol_below : (c : ℕ) → is_symbol c ≡ true → symbol_bits c < 32
symbol_below c h = grind (arith, nat_tests, h)

symbols_in_order : (a b : ℕ) → a < 32 → b < 32 → nat_cmp (symbol a) (symbol b) ≡ nat_cmp a b
symbols_in_order a b h k = grind (arith, nat_tests, h, k)

symbol_low : (b : ℕ) → b < 32 → to_ascii_lowercase (symbol b) ≡ symbol b
symbol_low b h = grind (arith, nat_tests, h)

all_read : (xs : List ℕ) → AllBelowBase 32 xs → map symbol_bits (map symbol xs) ≡ xs
all_read [] below = refl
all_read (x ∷ xs) below = rw (symbol_read x below.0, all_read xs below.1) refl

all_low : (xs : List ℕ) → AllBelowBase 32 xs → map to_ascii_lowercase (map symbol xs) ≡ map symbol xs
all_low [] below = refl
all_low (x ∷ xs) below = rw (symbol_low x below.0, all_low xs below.1) refl

all_back : (cs : List ℕ) → list_all is_symbol cs ≡ true → map symbol (map symbol_bits cs) ≡ map to_ascii_lowercase cs
all_back [] h = refl
all_back (c ∷ cs) h = let parts = and_parts (is_symbol c) (list_all is_symbol cs) h in rw (symbol_back c parts.0, all_back cs parts.1) refl

all_below : (cs : List ℕ) → list_all is_symbol cs ≡ true → AllBelowBase 32 (map symbol_bits cs)
all_below [] h = tt
all_below (c ∷ cs) h = let parts = and_parts (is_symbol c) (list_all is_symbol cs) h in (symbol_below c parts.0, all_below cs parts.1)

all_in_order : (xs ys : List ℕ) → AllBelowBase 32 xs → AllBelowBase 32 ys → length xs ≡ length ys
    → slice_cmp nat_cmp (map symbol xs) (map symbol ys) ≡ slice_cmp nat_cmp xs ys
all_in_order [] [] h k same = refl
all_in_order [] (y ∷ ys) h k same = absurd (omega (arith, same))
all_in_order (x ∷ xs) [] h k same = absurd (omega (arith, same))
all_in_order (x ∷ xs) (y ∷ ys) h k same =
    rw (symbols_in_order x y h.0 k.0, all_in_order xs ys h.1 k.1 (omega (arith, same))) refl

groups_below : (n : ℕ) → AllBelowBase 32 (groups_of_five n)
groups_below n = (omega arith, (omega arith, (omega arith, (omega arith, (omega arith, (omega arith, (omega arith, (omega arith, tt))))))))

five_below : (n : ℕ) → AllBelowBase 256 (five_bytes n)
five_below n = (omega arith, (omega arith, (omega arith, (omega arith, (omega arith, tt)))))

-- ---- there and back

number_below : (a b c d e : ℕ) (rest : List ℕ) → AllBelowBase 256 (a ∷ b ∷ c ∷ d ∷ e ∷ rest)
    → number_from_digits 256 (a ∷ b ∷ c ∷ d ∷ e ∷ []) < 1099511627776
number_below a b c d e rest below =
    number_lt 256 (a ∷ b ∷ c ∷ d ∷ e ∷ []) (below.0, (below.1.0, (below.1.1.0, (below.1.1.1.0, (below.1.1.1.1.0, tt)))))

-- the text of a hash is read as that hash
pub text_read : (bytes : List ℕ) → AllBelowBase 256 bytes → length bytes % 5 ≡ 0 → base32hex_bytes (base32hex bytes) ≡ bytes
unfolding base32hex base32hex_bytes
text_read (a ∷ b ∷ c ∷ d ∷ e ∷ rest) below whole =
    let n : ℕ = number_from_digits 256 (a ∷ b ∷ c ∷ d ∷ e ∷ []) in
    let five : AllBelowBase 256 (a ∷ b ∷ c ∷ d ∷ e ∷ []) = (below.0, (below.1.0, (below.1.1.0, (below.1.1.1.0, (below.1.1.1.1.0, tt))))) in
    ap (λ t. five_bytes (number_from_digits 32 t) ++ base32hex_bytes (base32hex rest)) (all_read (groups_of_five n) (groups_below n))
    ∙ ap (λ m. five_bytes m ++ base32hex_bytes (base32hex rest)) (number_of_groups n (number_below a b c d e rest below))
    ∙ ap (λ (l : List ℕ). l ++ base32hex_bytes (base32hex rest)) (bytes_of_number a b c d e five)
    ∙ ap (λ (l : List ℕ). a ∷ b ∷ c ∷ d ∷ e ∷ l) (text_read rest below.1.1.1.1.1 (omega (arith, whole)))
text_read [] below whole = refl
text_read bytes below whole = absurd (omega (arith, whole))

-- the hash of a text has that text, in lower case
pub bytes_written : (text : List ℕ) → list_all is_symbol text ≡ true → length text % 8 ≡ 0
    → base32hex (base32hex_bytes text) ≡ map to_ascii_lowercase text
unfolding base32hex base32hex_bytes
bytes_written (a ∷ b ∷ c ∷ d ∷ e ∷ f ∷ g ∷ h ∷ rest) symbols whole =
    let eight : List ℕ = a ∷ b ∷ c ∷ d ∷ e ∷ f ∷ g ∷ h ∷ [] in
    let parts = eight_of a b c d e f g h rest symbols in
    let n : ℕ = number_from_digits 32 (map symbol_bits eight) in
    let below = all_below eight parts.0 in
    ap (λ m. map symbol (groups_of_five m) ++ base32hex (base32hex_bytes rest))
    (number_of_bytes n (number_lt 32 (map symbol_bits eight) below))
    ∙ ap (λ (l : List ℕ). map symbol l ++ base32hex (base32hex_bytes rest))
    (groups_of_number (symbol_bits a) (symbol_bits b) (symbol_bits c) (symbol_bits d) (symbol_bits e) (symbol_bits f)
    (symbol_bits g) (symbol_bits h) below)
    ∙ ap (λ (l : List ℕ). l ++ base32hex (base32hex_bytes rest)) (all_back eight parts.0)
    ∙ ap (λ (l : List ℕ). map to_ascii_lowercase eight ++ l) (bytes_written rest parts.1 (omega (arith, whole)))
  where
    eight_of : (a b c d e f g h : ℕ) (rest : List ℕ) → list_all is_symbol (a ∷ b ∷ c ∷ d ∷ e ∷ f ∷ g ∷ h ∷ rest) ≡ true
        → (list_all is_symbol (a ∷ b ∷ c ∷ d ∷ e ∷ f ∷ g ∷ h ∷ []) ≡ true) × (list_all is_symbol rest ≡ true)
    eight_of a b c d e f g h rest symbols =
        let whole = ◌∙◌ (sym (list_all-append is_symbol (a ∷ b ∷ c ∷ d ∷ e ∷ f ∷ g ∷ h ∷ []) rest)) symbols in
        and_parts (list_all is_symbol (a ∷ b ∷ c ∷ d ∷ e ∷ f ∷ g ∷ h ∷ [])) (list_all is_symbol rest) whole
bytes_written [] symbols whole = refl
bytes_written text symbols whole = absurd (omega (arith, whole))

-- ---- order

step_of_32 : (m n x y : ℕ) → x < 32 → y < 32 → nat_cmp (m * 32 + x) (n * 32 + y) ≡ ordering_then (nat_cmp m n) (nat_cmp x y)
step_of_32 m n x y h k = grind (arith, nat_tests, h, k)

step_of_256 : (m n x y : ℕ) → x < 256 → y < 256 → nat_cmp (m * 256 + x) (n * 256 + y) ≡ ordering_then (nat_cmp m n) (nat_cmp x y)
step_of_256 m n x y h k = grind (arith, nat_tests, h, k)

-- numbers compare as their digits do, in a base in which two numbers with one digit more do
digits_order : (base : ℕ)
    → ((m n x y : ℕ) → x < base → y < base → nat_cmp (m * base + x) (n * base + y) ≡ ordering_then (nat_cmp m n) (nat_cmp x y))
    → (xs ys : List ℕ) → length xs ≡ length ys → AllBelowBase base xs → AllBelowBase base ys → (m n : ℕ)
    → nat_cmp (number_from_digits_after base m xs) (number_from_digits_after base n ys)
    ≡ ordering_then (nat_cmp m n) (slice_cmp nat_cmp xs ys)
digits_order base step [] [] same h k m n = sym (then_Equal (nat_cmp m n))
digits_order base step [] (y ∷ ys) same h k m n = absurd (omega (arith, same))
digits_order base step (x ∷ xs) [] same h k m n = absurd (omega (arith, same))
digits_order base step (x ∷ xs) (y ∷ ys) same h k m n =
    digits_order base step xs ys (omega (arith, same)) h.1 k.1 (m * base + x) (n * base + y)
    ∙ ap (λ o. ordering_then o (slice_cmp nat_cmp xs ys)) (step m n x y h.0 k.0)
    ∙ sym (then_assoc (nat_cmp m n) (nat_cmp x y) (slice_cmp nat_cmp xs ys))

groups_order : (m n : ℕ) → m < 1099511627776 → n < 1099511627776
    → slice_cmp nat_cmp (map symbol (groups_of_five m)) (map symbol (groups_of_five n)) ≡ nat_cmp m n
groups_order m n h k =
    all_in_order (groups_of_five m) (groups_of_five n) (groups_below m) (groups_below n) refl
    ∙ sym (digits_order 32 step_of_32 (groups_of_five m) (groups_of_five n) refl (groups_below m) (groups_below n) 0 0)
    ∙ ap (λ x. nat_cmp x (number_from_digits 32 (groups_of_five n))) (number_of_groups m h) ∙ ap (nat_cmp m) (number_of_groups n k)

-- the order of the texts is the order of the hashes
pub text_order : (one two : List ℕ) → AllBelowBase 256 one → AllBelowBase 256 two → length one ≡ length two → length one % 5 ≡ 0
    → slice_cmp nat_cmp (base32hex one) (base32hex two) ≡ slice_cmp nat_cmp one two
unfolding base32hex
text_order (a ∷ b ∷ c ∷ d ∷ e ∷ one) (p ∷ q ∷ r ∷ s ∷ t ∷ two) below under same whole =
    let first : List ℕ = a ∷ b ∷ c ∷ d ∷ e ∷ [] in
    let second : List ℕ = p ∷ q ∷ r ∷ s ∷ t ∷ [] in
    let m : ℕ = number_from_digits 256 first in
    let n : ℕ = number_from_digits 256 second in
    let h : AllBelowBase 256 first = (below.0, (below.1.0, (below.1.1.0, (below.1.1.1.0, (below.1.1.1.1.0, tt))))) in
    let k : AllBelowBase 256 second = (under.0, (under.1.0, (under.1.1.0, (under.1.1.1.0, (under.1.1.1.1.0, tt))))) in
    let fronts : slice_cmp nat_cmp (map symbol (groups_of_five m)) (map symbol (groups_of_five n)) ≡ slice_cmp nat_cmp first second =
    groups_order m n (number_below a b c d e one below) (number_below p q r s t two under)
    ∙ digits_order 256 step_of_256 first second refl h k 0 0 in
    let rests = text_order one two below.1.1.1.1.1 under.1.1.1.1.1 (omega (arith, same)) (omega (arith, whole)) in
    cmp-append nat_cmp (map symbol (groups_of_five m)) (map symbol (groups_of_five n)) (base32hex one) (base32hex two) refl
    ∙ ap (λ o. ordering_then o (slice_cmp nat_cmp (base32hex one) (base32hex two))) fronts
    ∙ ap (ordering_then (slice_cmp nat_cmp first second)) rests
    ∙ sym (cmp-append nat_cmp first second one two refl)
text_order (a ∷ b ∷ c ∷ d ∷ e ∷ one) two below under same whole = absurd (omega (arith, same))
text_order [] [] below under same whole = refl
text_order [] two below under same whole = absurd (omega (arith, same))
text_order one two below under same whole = absurd (omega (arith, whole))

-- ---- texts in either case

-- a text that is a hash's is in lower case
pub text_low : (bytes : List ℕ) → map to_ascii_lowercase (base32hex bytes) ≡ base32hex bytes
unfolding base32hex
text_low (a ∷ b ∷ c ∷ d ∷ e ∷ rest) =
    let n : ℕ = number_from_digits 256 (a ∷ b ∷ c ∷ d ∷ e ∷ []) in
    map-append to_ascii_lowercase (map symbol (groups_of_five n)) (base32hex rest)
    ∙ ap (λ (l : List ℕ). l ++ map to_ascii_lowercase (base32hex rest)) (all_low (groups_of_five n) (groups_below n))
    ∙ ap (λ (l : List ℕ). map symbol (groups_of_five n) ++ l) (text_low rest)
text_low bytes = refl

-- what a text is read as are bytes
pub bytes_below : (text : List ℕ) → AllBelowBase 256 (base32hex_bytes text)
unfolding base32hex_bytes
bytes_below (a ∷ b ∷ c ∷ d ∷ e ∷ f ∷ g ∷ h ∷ rest) =
    let n : ℕ = number_from_digits 32 (map symbol_bits (a ∷ b ∷ c ∷ d ∷ e ∷ f ∷ g ∷ h ∷ [])) in
    let five = five_below n in (five.0, (five.1.0, (five.1.1.0, (five.1.1.1.0, (five.1.1.1.1.0, bytes_below rest)))))
bytes_below text = tt

pub below_from : (bytes : List ℕ) → is_bytes bytes ≡ true → AllBelowBase 256 bytes
below_from [] h = tt
below_from (b ∷ bytes) h =
    let parts = and_parts (nat_lt b 256) (list_all (λ b. nat_lt b 256) bytes) h in
    (grind (arith, nat_tests, parts.0), below_from bytes parts.1)
