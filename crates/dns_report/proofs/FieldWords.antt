-- The words of an answer's fields: each is a word, and tells its field.
use Rattle.std.proofs.Common.{◌≡◌, ℕ, ◌^◌, ◌<◌, ◌≤◌, Bool, true, ◌&&◌, List, [], ◌∷◌, map, get_or, ap, refl, arith}
use Rattle.std.specs.Fmt.{decimal}
use Rattle.std.specs.List.{list_all}
use Rattle.std.proofs.lemmas.Bool.{and_parts, ltb-true}
use Rattle.std.proofs.lemmas.Fmt.{decimal_injective}
use Rattle.dns_model.specs.Bytes.{is_bytes}
use Rattle.dns_model.specs.Names.{Labels, is_name}
use Rattle.dns_model.specs.NameText.{printed}
use Rattle.dns_record.specs.Words.{type_word, class_word}
use Rattle.dns_text.specs.Words.{octets_word}
use Rattle.dns_text.specs.Lines.{Words}
use Rattle.dns_text.proofs.WordShapes.{is_word, decimal_word, type_is_word, class_is_word, type_injective, class_injective, octets_is_word, octets_injective}
use Rattle.dns_report.specs.Fields.{fitting_name, is_u16, is_u32}
use Rattle.dns_report.specs.View.{Numbered, fitting_key}
use Rattle.dns_report.specs.Report.{key_words}
use Rattle.dns_report.proofs.NameShapes.{printed_injective}

pub below_u16 : (n : ℕ) → is_u16 n ≡ true → n ≤ 65535
below_u16 n h = let lt : n < 2 ^ 16 = ltb-true n (2 ^ 16) h in omega (arith, lt)

pub below_u32 : (n : ℕ) → is_u32 n ≡ true → n < 2 ^ 64
below_u32 n h = let lt : n < 2 ^ 32 = ltb-true n (2 ^ 32) h in omega (arith, lt)

pub class_good : (n : ℕ) → is_u16 n ≡ true → is_word (class_word n) ≡ true
class_good n h = class_is_word n (below_u16 n h)

pub type_good : (n : ℕ) → is_u16 n ≡ true → is_word (type_word n) ≡ true
type_good n h = type_is_word n (below_u16 n h)

pub small_good : (n : ℕ) → is_u16 n ≡ true → is_word (decimal n) ≡ true
small_good n h = decimal_word n (let le = below_u16 n h in omega (arith, le))

pub number_good : (n : ℕ) → is_u32 n ≡ true → is_word (decimal n) ≡ true
number_good n h = decimal_word n (below_u32 n h)

pub name_tells : (a b : Labels) → fitting_name a ≡ true → fitting_name b ≡ true → printed a ≡ printed b → a ≡ b
name_tells a b first second h =
    let one = and_parts (is_name a) (list_all is_bytes a) first in
    let two = and_parts (is_name b) (list_all is_bytes b) second in
    printed_injective a b one.0 one.1 two.0 two.1 h

pub class_tells : (a b : ℕ) → is_u16 a ≡ true → is_u16 b ≡ true → class_word a ≡ class_word b → a ≡ b
class_tells a b first second h = class_injective a b (below_u16 a first) (below_u16 b second) h

pub type_tells : (a b : ℕ) → is_u16 a ≡ true → is_u16 b ≡ true → type_word a ≡ type_word b → a ≡ b
type_tells a b first second h = type_injective a b (below_u16 a first) (below_u16 b second) h

pub small_tells : (a b : ℕ) → is_u16 a ≡ true → is_u16 b ≡ true → decimal a ≡ decimal b → a ≡ b
small_tells a b first second h =
    decimal_injective a b (let le = below_u16 a first in omega (arith, le))
    (let le = below_u16 b second in omega (arith, le)) h

pub number_tells : (a b : ℕ) → is_u32 a ≡ true → is_u32 b ≡ true → decimal a ≡ decimal b → a ≡ b
number_tells a b first second h = decimal_injective a b (below_u32 a first) (below_u32 b second) h

-- what the fields of a record are that fits
pub record FitFields (labels : Labels) (class_code type_code seconds : ℕ) (bytes : List ℕ) : Type 0 where
  pub owner : fitting_name labels ≡ true
  pub class : is_u16 class_code ≡ true
  pub rtype : is_u16 type_code ≡ true
  pub ttl : is_u32 seconds ≡ true
  pub rdata : is_bytes bytes ≡ true

pub fit_fields : (labels : Labels) (class_code type_code seconds : ℕ) (bytes : List ℕ)
    → (fitting_name labels && (is_u16 class_code && (is_u16 type_code && (is_u32 seconds && is_bytes bytes)))) ≡ true
    → FitFields labels class_code type_code seconds bytes
fit_fields labels class_code type_code seconds bytes h =
    let a = and_parts (fitting_name labels)
    (is_u16 class_code && (is_u16 type_code && (is_u32 seconds && is_bytes bytes))) h in
    let b = and_parts (is_u16 class_code) (is_u16 type_code && (is_u32 seconds && is_bytes bytes)) a.1 in
    let c = and_parts (is_u16 type_code) (is_u32 seconds && is_bytes bytes) b.1 in
    let d = and_parts (is_u32 seconds) (is_bytes bytes) c.1 in
    record { owner = a.0; class = b.0; rtype = c.0; ttl = d.0; rdata = d.1 }

-- ---- lists of words

abbrev pub more_words : Words → Words
more_words [] = []
more_words (w ∷ ws) = ws

-- a word for each value of a list
pub each_good : {A : Type 0} (word : A → List ℕ) (fits : A → Bool) → ((v : A) → fits v ≡ true → is_word (word v) ≡ true)
    → (vs : List A) → list_all fits vs ≡ true → list_all is_word (map word vs) ≡ true
each_good word fits one [] h = refl
each_good word fits one (v ∷ vs) h =
    let parts = and_parts (fits v) (list_all fits vs) h in
    rw (one v parts.0) (each_good word fits one vs parts.1)

-- where each word tells its value, the words tell the list
pub each_tells : {A : Type 0} (word : A → List ℕ) (fits : A → Bool)
    → ((v w : A) → fits v ≡ true → fits w ≡ true → word v ≡ word w → v ≡ w)
    → (vs ws : List A) → list_all fits vs ≡ true → list_all fits ws ≡ true → map word vs ≡ map word ws → vs ≡ ws
each_tells word fits one [] [] first second h = refl
each_tells word fits one [] (w ∷ ws) first second h = cc h
each_tells word fits one (v ∷ vs) [] first second h = cc h
each_tells word fits one (v ∷ vs) (w ∷ ws) first second h =
    let parts = and_parts (fits v) (list_all fits vs) first in
    let others = and_parts (fits w) (list_all fits ws) second in
    let head : word v ≡ word w = ap (λ l. get_or l 0 []) h in
    let rest : map word vs ≡ map word ws = ap more_words h in
    rw (one v w parts.0 others.0 head, each_tells word fits one vs ws parts.1 others.1 rest) refl

pub rdatas_good : (rdatas : List (List ℕ)) → list_all is_bytes rdatas ≡ true
    → list_all is_word (map octets_word rdatas) ≡ true
rdatas_good rdatas h = each_good octets_word is_bytes octets_is_word rdatas h

pub rdatas_tell : (a b : List (List ℕ)) → list_all is_bytes a ≡ true → list_all is_bytes b ≡ true
    → map octets_word a ≡ map octets_word b → a ≡ b
rdatas_tell a b first second h = each_tells octets_word is_bytes octets_injective a b first second h

pub keys_good : (keys : List Numbered) → list_all fitting_key keys ≡ true → list_all is_word (key_words keys) ≡ true
unfolding key_words
keys_good [] h = refl
keys_good (k ∷ ks) h =
    let parts = and_parts (fitting_key k) (list_all fitting_key ks) h in
    let both = and_parts (is_u32 k.0) (is_bytes k.1) parts.0 in
    rw (number_good k.0 both.0, octets_is_word k.1 both.1) (keys_good ks parts.1)

pub keys_tell : (a b : List Numbered) → list_all fitting_key a ≡ true → list_all fitting_key b ≡ true
    → key_words a ≡ key_words b → a ≡ b
unfolding key_words
keys_tell [] [] first second h = refl
keys_tell [] (s ∷ ss) first second h = cc h
keys_tell (r ∷ rs) [] first second h = cc h
keys_tell (r ∷ rs) (s ∷ ss) first second h =
    let parts = and_parts (fitting_key r) (list_all fitting_key rs) first in
    let others = and_parts (fitting_key s) (list_all fitting_key ss) second in
    let both = and_parts (is_u32 r.0) (is_bytes r.1) parts.0 in
    let two = and_parts (is_u32 s.0) (is_bytes s.1) others.0 in
    let one : decimal r.0 ≡ decimal s.0 = ap (λ l. get_or l 0 []) h in
    let next : octets_word r.1 ≡ octets_word s.1 = ap (λ l. get_or l 1 []) h in
    let rest : key_words rs ≡ key_words ss = ap (λ l. more_words (more_words l)) h in
    pairs_same r.0 s.0 r.1 s.1 rs ss (number_tells r.0 s.0 both.0 two.0 one)
    (octets_injective r.1 s.1 both.1 two.1 next) (keys_tell rs ss parts.1 others.1 rest)
  where
    pairs_same : (m n : ℕ) (k l : List ℕ) (ks ls : List Numbered) → m ≡ n → k ≡ l → ks ≡ ls
        → ◌≡◌ {A = List Numbered} ((m, k) ∷ ks) ((n, l) ∷ ls)
    pairs_same m n k l ks ls e f g = rw (e, f, g) refl
