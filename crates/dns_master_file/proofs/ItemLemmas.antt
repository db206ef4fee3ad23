-- What is left of a line is read item by item, and gets shorter with each.
use Rattle.std.proofs.Common.{◌≡◌, ℕ, ◌+◌, ◌<◌, ◌≤◌, true, false, ◌==◌, List, [], ◌∷◌, ◌++◌, length, drop, Option, None, Some, Result, Ok, Err, refl, sym, ap, ◌∙◌, arith, append-nil, length-drop, inl, inr}
use Rattle.std.specs.Prelude.{nat_lt}
use Rattle.std.specs.List.{concat}
use Rattle.std.proofs.lemmas.Bool.{cases_Bool}
use Rattle.std.proofs.lemmas.List.{append_assoc}
use Rattle.dns_model.specs.Gives.{or_error}
use Rattle.dns_model.specs.ResultSteps.{◌>>=◌}
use Rattle.dns_presentation.specs.Spelling.{quote}
use Rattle.dns_master_file.specs.Codes.{type_in}
use Rattle.dns_master_file.specs.Fields.{one_in, refusal_of, string_in, strings_in, type_first}
use Rattle.dns_master_file.specs.Front.{after_blanks, all_in, ends_word, is_blank, is_bracket, is_over, items_in, quoted_in, quoted_size, run_size, semicolon, text_word, word_in}
use Rattle.dns_master_file.specs.Meanings.{counted, meant}
use Rattle.dns_master_file.specs.declared.field.Field.TheVariants.{Texts}
use Rattle.dns_master_file.specs.declared.stop.Refusal.TheVariants.{BadType, LongText}
use Rattle.dns_master_file.specs.declared.stop.Stop.{Stop}
use Rattle.dns_master_file.specs.declared.stop.Stop.TheVariants.{At}

-- how much is left after an item
abbrev rest_size : {X : Type 0} → Result (X × List ℕ) Stop → ℕ
rest_size (Ok p) = length p.1
rest_size (Err stop) = 0

-- an item takes a byte at least
abbrev pub Shortens : {X : Type 0} → (List ℕ → Result (X × List ℕ) Stop) → Type 0
Shortens {X} read = (bytes rest : List ℕ) (x : X) → read bytes ≡ Ok (x, rest) → length rest < length bytes

-- ---- all items

abbrev then_items : {X : Type 0} → Result (X × List ℕ) Stop → (List ℕ → Result (List X) Stop) → Result (List X) Stop
then_items first more = first >>= λ f. more f.1 >>= λ xs. Ok (f.0 ∷ xs)

then_same : {X : Type 0} (first : Result (X × List ℕ) Stop) (f g : List ℕ → Result (List X) Stop)
    → ((x : X) (rest : List ℕ) → first ≡ Ok (x, rest) → f rest ≡ g rest) → then_items first f ≡ then_items first g
then_same (Err stop) f g h = refl
then_same (Ok (x, rest)) f g h = ap (λ more. more >>= λ xs. Ok (x ∷ xs)) (h x rest refl)

-- any bound that is long enough reads the same items
bound_enough : {X : Type 0} (read : List ℕ → Result (X × List ℕ) Stop) → Shortens read → (a b bytes : List ℕ)
    → length bytes ≤ length a → length bytes ≤ length b → items_in read a bytes ≡ items_in read b bytes
unfolding items_in
bound_enough read h [] [] bytes g k = refl
bound_enough read h [] (q ∷ b) [] g k = refl
bound_enough read h [] (q ∷ b) (x ∷ xs) g k = absurd (omega arith)
bound_enough read h (p ∷ a) [] [] g k = refl
bound_enough read h (p ∷ a) [] (x ∷ xs) g k = absurd (omega arith)
bound_enough read h (p ∷ a) (q ∷ b) bytes g k =
    elim (cases_Bool (is_over bytes)) [
      | inl over ↦ rw over refl
      | inr more ↦
          rw more
          (then_same (read bytes) (items_in read a) (items_in read b)
          (λ x rest e.
          let s = h bytes rest x e in bound_enough read h a b rest (omega (arith, s, g)) (omega (arith, s, k))))
    ]

-- the items are the first and those of the rest
pub all_more : {X : Type 0} (read : List ℕ → Result (X × List ℕ) Stop) → Shortens read → (bytes : List ℕ)
    → is_over bytes ≡ false → all_in read bytes ≡ then_items (read bytes) (all_in read)
unfolding all_in items_in
all_more read h [] more = cc
all_more read h (b ∷ bs) more =
    rw more
    (then_same (read (b ∷ bs)) (items_in read bs) (λ rest. items_in read rest rest)
    (λ x rest e.
    let s = h (b ∷ bs) rest x e in bound_enough read h bs rest rest (omega (arith, s)) (omega arith)))

-- no item is left
pub all_over : {X : Type 0} (read : List ℕ → Result (X × List ℕ) Stop) → (bytes : List ℕ) → is_over bytes ≡ true
    → all_in read bytes ≡ Ok []
unfolding all_in items_in
all_over read [] over = refl
all_over read (b ∷ bs) over = rw over refl

-- ---- words and texts shorten what is left

pub blanks_short : (bytes : List ℕ) → length (after_blanks bytes) ≤ length bytes
unfolding after_blanks
blanks_short [] = omega arith
blanks_short (b ∷ bs) =
    elim (cases_Bool (is_blank b)) [
      | inl blank ↦ let rest = blanks_short bs in rw blank (omega (arith, rest))
      | inr other ↦ rw other (omega arith)
    ]

-- a word, or the blank that stands in its place
run_rest : (b : ℕ) (bs : List ℕ) → (b == semicolon) ≡ false → (b == quote) ≡ false → is_bracket b ≡ false
    → length (after_blanks (drop (run_size false (b ∷ bs)) (b ∷ bs))) < length (b ∷ bs)
unfolding run_size after_blanks
run_rest b bs no_comment no_quote no_bracket =
    elim (cases_Bool (is_blank b)) [
      | inl blank ↦
          let edge : ends_word b ≡ true = rw blank refl in
          let rest = blanks_short bs in
          rw (edge, blank) (omega (arith, rest))
      | inr no_blank ↦
          let inside : ends_word b ≡ false = rw (no_blank, no_bracket, no_quote, no_comment) refl in
          let rest = blanks_short (drop (run_size (b == 92) bs) bs) in
          let size = length-drop (run_size (b == 92) bs) bs in
          rw inside (omega (arith, rest, size))
    ]

pub word_short : (bytes : List ℕ) → 0 < length bytes → rest_size (word_in bytes) < length bytes
unfolding word_in
word_short [] some = absurd (omega arith)
word_short (b ∷ bs) some =
    elim (cases_Bool (b == semicolon)) [
      | inl comment ↦ rw comment (omega arith)
      | inr no_comment ↦ elim (cases_Bool (b == quote)) [
        | inl quoted ↦ rw (no_comment, quoted) (omega arith)
        | inr no_quote ↦ elim (cases_Bool (is_bracket b)) [
          | inl bracket ↦ rw (no_comment, no_quote, bracket) (omega arith)
          | inr no_bracket ↦ rw (no_comment, no_quote, no_bracket) (run_rest b bs no_comment no_quote no_bracket)
        ]
      ]
    ]

quoted_short : (bytes : List ℕ) → 0 < length bytes → rest_size (quoted_in bytes) < length bytes
unfolding quoted_in
quoted_short [] some = absurd (omega arith)
quoted_short (b ∷ bs) some =
    elim (cases_Bool (nat_lt (quoted_size false bs) (length bs))) [
      | inl closed ↦
          let rest = blanks_short (drop (quoted_size false bs + 1) bs) in
          let size = length-drop (quoted_size false bs + 1) bs in
          rw closed (omega (arith, rest, size))
      | inr open_still ↦ rw open_still (omega arith)
    ]

pub text_short : (bytes : List ℕ) → 0 < length bytes → rest_size (text_word bytes) < length bytes
unfolding text_word
text_short [] some = absurd (omega arith)
text_short (b ∷ bs) some =
    elim (cases_Bool (b == quote)) [
      | inl quoted ↦ rw quoted (quoted_short (b ∷ bs) some)
      | inr plain ↦ rw plain (word_short (b ∷ bs) some)
    ]

meaning_short : {Y : Type 0} (stop : Stop) (rest : List ℕ) (meant : Option Y)
    → rest_size (or_error stop meant >>= λ y. Ok (y, rest)) ≤ length rest
meaning_short stop rest None = omega arith
meaning_short stop rest (Some y) = omega arith

-- a step after which as much is left
step_short : {X Y : Type 0} (first : Result (X × List ℕ) Stop) (meaning : X → Option Y) (stop : Stop)
    → rest_size (first >>= λ x. or_error stop (meaning x.0) >>= λ y. Ok (y, x.1)) ≤ rest_size first
step_short (Err s) meaning stop = omega arith
step_short (Ok (x, rest)) meaning stop = meaning_short stop rest (meaning x)

-- ---- character-strings

one_short : (bytes : List ℕ) → 0 < length bytes → rest_size (one_in Texts bytes) < length bytes
unfolding one_in
one_short bytes some =
    let first = text_short bytes some in
    let step = step_short (text_word bytes) (meant Texts) (At (refusal_of Texts) (length bytes)) in
    omega (arith, first, step)

string_short : (bytes : List ℕ) → 0 < length bytes → rest_size (string_in bytes) < length bytes
unfolding string_in
string_short bytes some =
    let first = one_short bytes some in
    let step = step_short (one_in Texts bytes) counted (At LongText (length bytes)) in
    omega (arith, first, step)

pub string_shorter : (bytes rest octets : List ℕ) → string_in bytes ≡ Ok (octets, rest) → length rest < length bytes
unfolding string_in one_in text_word
string_shorter [] rest octets h = cc
string_shorter (b ∷ bs) rest octets h =
    let short = string_short (b ∷ bs) (omega arith) in
    let same = ap (λ (r : Result (List ℕ × List ℕ) Stop). rest_size r) h in
    omega (arith, short, same)

-- bytes that were gathered, and those of the texts that are left
abbrev pub strings_after : List ℕ → Result (List (List ℕ)) Stop → Result (List ℕ) Stop
strings_after seen texts = texts >>= λ more. Ok (seen ++ concat more)

pub strings_start : (bytes octets rest : List ℕ) → string_in bytes ≡ Ok (octets, rest)
    → strings_after octets (all_in string_in rest) ≡ strings_in bytes
unfolding strings_in
strings_start bytes octets rest h = rw h refl

strings_then : (seen octets : List ℕ) (texts : Result (List (List ℕ)) Stop)
    → strings_after (seen ++ octets) texts ≡ strings_after seen (texts >>= λ more. Ok (octets ∷ more))
strings_then seen octets (Ok more) = ap Ok (append_assoc seen octets (concat more))
strings_then seen octets (Err stop) = refl

-- one text more
pub strings_more : (seen bytes octets rest : List ℕ) → is_over bytes ≡ false → string_in bytes ≡ Ok (octets, rest)
    → strings_after (seen ++ octets) (all_in string_in rest) ≡ strings_after seen (all_in string_in bytes)
strings_more seen bytes octets rest more h =
    strings_then seen octets (all_in string_in rest)
    ∙ ap (strings_after seen)
    (sym (all_more string_in string_shorter bytes more ∙ ap (λ first. then_items first (all_in string_in)) h))

-- a text that is refused
pub strings_stop : (seen bytes : List ℕ) (stop : Stop) → is_over bytes ≡ false → string_in bytes ≡ Err stop
    → strings_after seen (all_in string_in bytes) ≡ Err stop
strings_stop seen bytes stop more h =
    ap (strings_after seen)
    (all_more string_in string_shorter bytes more ∙ ap (λ first. then_items first (all_in string_in)) h)

-- no text is left
pub strings_end : (seen bytes : List ℕ) → is_over bytes ≡ true
    → strings_after seen (all_in string_in bytes) ≡ Ok seen
strings_end seen bytes over = ap (strings_after seen) (all_over string_in bytes over) ∙ ap Ok (append-nil seen)

-- ---- types

type_short : (bytes : List ℕ) → 0 < length bytes → rest_size (type_first bytes) < length bytes
type_short bytes some =
    let first = word_short bytes some in
    let step = step_short (word_in bytes) type_in (At BadType (length bytes)) in
    omega (arith, first, step)

pub type_shorter : (bytes rest : List ℕ) (rtype : ℕ) → type_first bytes ≡ Ok (rtype, rest)
    → length rest < length bytes
unfolding word_in
type_shorter [] rest rtype h = cc
type_shorter (b ∷ bs) rest rtype h =
    let short = type_short (b ∷ bs) (omega arith) in
    let same = ap (λ (r : Result (ℕ × List ℕ) Stop). rest_size r) h in
    omega (arith, short, same)

-- types that were gathered, and those that are left
abbrev pub types_after : List ℕ → Result (List ℕ) Stop → Result (List ℕ) Stop
types_after seen types = types >>= λ more. Ok (seen ++ more)

pub types_start : (types : Result (List ℕ) Stop) → types_after [] types ≡ types
types_start (Ok more) = refl
types_start (Err stop) = refl

types_then : (seen : List ℕ) (rtype : ℕ) (types : Result (List ℕ) Stop)
    → types_after (seen ++ rtype ∷ []) types ≡ types_after seen (types >>= λ more. Ok (rtype ∷ more))
types_then seen rtype (Ok more) = ap Ok (append_assoc seen (rtype ∷ []) more)
types_then seen rtype (Err stop) = refl

-- one type more
pub types_more : (seen bytes rest : List ℕ) (rtype : ℕ) → is_over bytes ≡ false → type_first bytes ≡ Ok (rtype, rest)
    → types_after (seen ++ rtype ∷ []) (all_in type_first rest) ≡ types_after seen (all_in type_first bytes)
types_more seen bytes rest rtype more h =
    types_then seen rtype (all_in type_first rest)
    ∙ ap (types_after seen)
    (sym (all_more type_first type_shorter bytes more ∙ ap (λ first. then_items first (all_in type_first)) h))

-- a word that is no type
pub types_stop : (seen bytes : List ℕ) (stop : Stop) → is_over bytes ≡ false → type_first bytes ≡ Err stop
    → types_after seen (all_in type_first bytes) ≡ Err stop
types_stop seen bytes stop more h =
    ap (types_after seen)
    (all_more type_first type_shorter bytes more ∙ ap (λ first. then_items first (all_in type_first)) h)

-- no type is left
pub types_end : (seen bytes : List ℕ) → is_over bytes ≡ true → types_after seen (all_in type_first bytes) ≡ Ok seen
types_end seen bytes over = ap (types_after seen) (all_over type_first bytes over) ∙ ap Ok (append-nil seen)
