-- A text of lines tells its lines, and a line its words, where each byte of a word is above the space.
use Rattle.std.proofs.Common.{◌≡◌, ℕ, ◌<◌, ◌≤◌, true, nat_lt, List, [], ◌∷◌, ◌++◌, length, slice_index, refl, sym, ap, ◌∙◌, arith, length-append}
use Rattle.std.specs.List.{list_all, flat_map}
use Rattle.std.proofs.lemmas.Bool.{and_parts}
use Rattle.std.proofs.lemmas.Bool.Decides.{nat_tests}
use Rattle.std.proofs.lemmas.List.{append_assoc}
use Rattle.dns_text.proofs.WordShapes.{is_word}
use Rattle.dns_text.proofs.LineShapes.{Line, text_of, is_line}
use Rattle.dns_text.specs.Lines.{Words, line, line_rest}

pub head_same : {x y : ℕ} {xs ys : List ℕ} → x ∷ xs ≡ y ∷ ys → x ≡ y
head_same h = ap (λ l. slice_index l 0) h

abbrev rest_of : List ℕ → List ℕ
rest_of [] = []
rest_of (x ∷ xs) = xs

pub rest_same : {x y : ℕ} {xs ys : List ℕ} → x ∷ xs ≡ y ∷ ys → xs ≡ ys
rest_same h = ap rest_of h

above : (c : ℕ) (cs : List ℕ) → is_word (c ∷ cs) ≡ true → 32 < c
above c cs h =
    let parts =
    and_parts (nat_lt 32 c) (is_word cs) h in let lt : nat_lt 32 c ≡ true = parts.0 in grind (arith, nat_tests)

more_word : (c : ℕ) (cs : List ℕ) → is_word (c ∷ cs) ≡ true → is_word cs ≡ true
more_word c cs h = (and_parts (nat_lt 32 c) (is_word cs) h).1

-- two words, what ends them, and what follows
record SameCut (a b : List ℕ) (s t : ℕ) (x y : List ℕ) : Type 0 where
  word : a ≡ b
  stop : s ≡ t
  rest : x ≡ y

-- a word ends at the first byte that isn't above the space
cut : (a b : List ℕ) (s t : ℕ) (x y : List ℕ) → is_word a ≡ true → is_word b ≡ true → s ≤ 32 → t ≤ 32
    → a ++ s ∷ x ≡ b ++ t ∷ y → SameCut a b s t x y
cut [] [] s t x y first second low lower h = record { word = refl; stop = head_same h; rest = rest_same h }
cut [] (d ∷ b) s t x y first second low lower h =
    let e : s ≡ d = head_same h in let lt : 32 < d = above d b second in absurd (omega (arith, e, lt, low))
cut (c ∷ a) [] s t x y first second low lower h =
    let e : c ≡ t = head_same h in let lt : 32 < c = above c a first in absurd (omega (arith, e, lt, lower))
cut (c ∷ a) (d ∷ b) s t x y first second low lower h =
    let e : c ≡ d = head_same h in
    let more = cut a b s t x y (more_word c a first) (more_word d b second) low lower (rest_same h) in
    record { word = rw (e, more.word) refl; stop = more.stop; rest = more.rest }

-- two lines and what follows
pub record SameLine (a b : List ℕ) (ws vs : Words) (x y : List ℕ) : Type 0 where
  pub word : a ≡ b
  pub words : ws ≡ vs
  pub rest : x ≡ y

pub line_cut : (a b : List ℕ) (ws vs : Words) (x y : List ℕ) → is_word a ≡ true → is_word b ≡ true
    → list_all is_word ws ≡ true → list_all is_word vs ≡ true
    → line a ws ++ x ≡ line b vs ++ y → SameLine a b ws vs x y
line_cut a b [] [] x y first second all_first all_second h =
    let e : a ++ 10 ∷ x ≡ b ++ 10 ∷ y = sym (append_assoc a (10 ∷ []) x) ∙ h ∙ append_assoc b (10 ∷ []) y in
    let same = cut a b 10 10 x y first second (omega arith) (omega arith) e in
    record { word = same.word; words = refl; rest = same.rest }
line_cut a b [] (v ∷ vs) x y first second all_first all_second h =
    let e : a ++ 10 ∷ x ≡ b ++ 32 ∷ (line v vs ++ y) =
    sym (append_assoc a (10 ∷ []) x) ∙ h ∙ append_assoc b (32 ∷ line v vs) y in
    let same = cut a b 10 32 x (line v vs ++ y) first second (omega arith) (omega arith) e in
    let stop : 10 ≡ 32 = same.stop in
    absurd (omega (arith, stop))
line_cut a b (w ∷ ws) [] x y first second all_first all_second h =
    let e : a ++ 32 ∷ (line w ws ++ x) ≡ b ++ 10 ∷ y =
    sym (append_assoc a (32 ∷ line w ws) x) ∙ h ∙ append_assoc b (10 ∷ []) y in
    let same = cut a b 32 10 (line w ws ++ x) y first second (omega arith) (omega arith) e in
    let stop : 32 ≡ 10 = same.stop in
    absurd (omega (arith, stop))
line_cut a b (w ∷ ws) (v ∷ vs) x y first second all_first all_second h =
    let parts = and_parts (is_word w) (list_all is_word ws) all_first in
    let others = and_parts (is_word v) (list_all is_word vs) all_second in
    let e : a ++ 32 ∷ (line w ws ++ x) ≡ b ++ 32 ∷ (line v vs ++ y) =
    sym (append_assoc a (32 ∷ line w ws) x) ∙ h ∙ append_assoc b (32 ∷ line v vs) y in
    let same = cut a b 32 32 (line w ws ++ x) (line v vs ++ y) first second (omega arith) (omega arith) e in
    let more = line_cut w v ws vs x y parts.0 others.0 parts.1 others.1 same.rest in
    record { word = same.word; words = rw (more.word, more.words) refl; rest = more.rest }

rest_some : (ws : Words) → 0 < length (line_rest ws)
rest_some [] = omega arith
rest_some (w ∷ ws) = omega arith

line_some : (l : Line) (x : List ℕ) → 0 < length (text_of l ++ x)
line_some l x = omega (arith, length-append (text_of l) x, length-append l.0 (line_rest l.1), rest_some l.1)

-- a text tells its lines
pub lines_same : (ls ms : List Line) → list_all is_line ls ≡ true → list_all is_line ms ≡ true
    → flat_map text_of ls ≡ flat_map text_of ms → ls ≡ ms
lines_same [] [] first second h = refl
lines_same [] (m ∷ ms) first second h =
    let e : 0 ≡ length (text_of m ++ flat_map text_of ms) =
    ap (λ t. length t) h in absurd (omega (arith, e, line_some m (flat_map text_of ms)))
lines_same (l ∷ ls) [] first second h =
    let e : length (text_of l ++ flat_map text_of ls) ≡ 0 =
    ap (λ t. length t) h in absurd (omega (arith, e, line_some l (flat_map text_of ls)))
lines_same (l ∷ ls) (m ∷ ms) first second h =
    let parts = and_parts (is_line l) (list_all is_line ls) first in
    let others = and_parts (is_line m) (list_all is_line ms) second in
    let one = and_parts (is_word l.0) (list_all is_word l.1) parts.0 in
    let two = and_parts (is_word m.0) (list_all is_word m.1) others.0 in
    let same = line_cut l.0 m.0 l.1 m.1 (flat_map text_of ls) (flat_map text_of ms) one.0 two.0 one.1 two.1 h in
    let more : ls ≡ ms = lines_same ls ms parts.1 others.1 same.rest in
    pair_cons l.0 m.0 l.1 m.1 ls ms same.word same.words more
  where
    pair_cons : (a b : List ℕ) (ws vs : Words) (ls ms : List Line) → a ≡ b → ws ≡ vs → ls ≡ ms
        → ◌≡◌ {A = List Line} ((a, ws) ∷ ls) ((b, vs) ∷ ms)
    pair_cons a b ws vs ls ms e f g = rw (e, f, g) refl
