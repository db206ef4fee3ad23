-- A line as it is read: what stands before its LF, and its words.
use Rattle.std.proofs.Common.{◌≡◌, ℕ, ◌<◌, true, false, ◌==◌, nat_lt, List, [], ◌∷◌, ◌++◌, refl, sym, ap, ◌∙◌, arith, append_assoc, append-nil}
use Rattle.std.specs.List.{list_all, list_any}
use Rattle.std.proofs.lemmas.Bool.{and_parts}
use Rattle.std.proofs.lemmas.Bool.Decides.{nat_tests}
use Rattle.std.proofs.lemmas.List.Folds.{list_any-append}
use Rattle.dns_text.specs.Lines.{Words, line_rest, spaced}
use Rattle.dns_text.proofs.LineShapes.{Line, text_of, is_line}
use Rattle.dns_text.proofs.WordShapes.{is_word}
use Rattle.dns_session.specs.LinePlaces.{pieces}
use Rattle.dns_session.specs.Lines.{words}

-- a line without its LF
abbrev pub joined : Line → List ℕ
joined l = l.0 ++ spaced l.1

rest_is : (ws : Words) → line_rest ws ≡ spaced ws ++ 10 ∷ []
rest_is [] = refl
rest_is (w ∷ ws) = ap (λ t. 32 ∷ (w ++ t)) (rest_is ws) ∙ ap (λ t. 32 ∷ t) (sym (append_assoc w (spaced ws) (10 ∷ [])))

pub line_is : (l : Line) → text_of l ≡ joined l ++ 10 ∷ []
line_is l = ap (λ t. l.0 ++ t) (rest_is l.1) ∙ sym (append_assoc l.0 (spaced l.1) (10 ∷ []))

-- ---- no LF within a line

not_among : (byte : ℕ) (w : List ℕ) → byte < 33 → is_word w ≡ true → list_any (λ b. b == byte) w ≡ false
not_among byte [] low h = refl
not_among byte (c ∷ cs) low h =
    let parts = and_parts (nat_lt 32 c) (is_word cs) h in
    let above : nat_lt 32 c ≡ true = parts.0 in
    let other : (c == byte) ≡ false = grind (arith, nat_tests) in
    rw (other, not_among byte cs low parts.1) refl

spaced_whole : (ws : Words) → list_all is_word ws ≡ true → list_any (λ b. b == 10) (spaced ws) ≡ false
spaced_whole [] h = refl
spaced_whole (w ∷ ws) h =
    let parts = and_parts (is_word w) (list_all is_word ws) h in
    let first : list_any (λ b. b == 10) w ≡ false = not_among 10 w (omega arith) parts.0 in
    let more : list_any (λ b. b == 10) (spaced ws) ≡ false = spaced_whole ws parts.1 in
    rw (list_any-append (λ b. b == 10) w (spaced ws), first, more) refl

pub line_whole : (l : Line) → is_line l ≡ true → list_any (λ b. b == 10) (joined l) ≡ false
line_whole l h =
    let parts = and_parts (is_word l.0) (list_all is_word l.1) h in
    let first : list_any (λ b. b == 10) l.0 ≡ false = not_among 10 l.0 (omega arith) parts.0 in
    rw (list_any-append (λ b. b == 10) l.0 (spaced l.1), first, spaced_whole l.1 parts.1) refl

-- ---- words

one_word : (w : List ℕ) → is_word w ≡ true → pieces 32 w ≡ w ∷ []
one_word [] h = refl
one_word (c ∷ cs) h =
    let parts = and_parts (nat_lt 32 c) (is_word cs) h in
    let above : nat_lt 32 c ≡ true = parts.0 in
    let other : (c == 32) ≡ false = grind (arith, nat_tests) in
    let ih : pieces 32 cs ≡ cs ∷ [] = one_word cs parts.1 in
    rw (other, ih) refl

first_word : (w rest : List ℕ) → is_word w ≡ true → pieces 32 (w ++ 32 ∷ rest) ≡ w ∷ pieces 32 rest
first_word [] rest h = refl
first_word (c ∷ cs) rest h =
    let parts = and_parts (nat_lt 32 c) (is_word cs) h in
    let above : nat_lt 32 c ≡ true = parts.0 in
    let other : (c == 32) ≡ false = grind (arith, nat_tests) in
    let ih : pieces 32 (cs ++ 32 ∷ rest) ≡ cs ∷ pieces 32 rest = first_word cs rest parts.1 in
    rw (other, ih) refl

all_words : (w : List ℕ) (ws : Words) → is_word w ≡ true → list_all is_word ws ≡ true
    → pieces 32 (w ++ spaced ws) ≡ w ∷ ws
all_words w [] h hs = ap (pieces 32) (append-nil w) ∙ one_word w h
all_words w (v ∷ vs) h hs =
    let parts = and_parts (is_word v) (list_all is_word vs) hs in
    first_word w (v ++ spaced vs) h ∙ ap (λ ps. w ∷ ps) (all_words v vs parts.0 parts.1)

-- the words of a line
pub line_words : (l : Line) → is_line l ≡ true → words (joined l) ≡ l.0 ∷ l.1
line_words l h =
    let parts = and_parts (is_word l.0) (list_all is_word l.1) h in all_words l.0 l.1 parts.0 parts.1
