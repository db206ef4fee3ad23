-- Values as lines, one value after another. Where the lines of one value tell it, those of many tell them all.
use Rattle.std.proofs.Common.{◌≡◌, Bool, true, false, List, [], ◌∷◌, ◌++◌, length, get_or, refl, sym, ap, ◌∙◌, arith}
use Rattle.std.specs.Prelude.{ℕ}
use Rattle.std.specs.List.{list_all, flat_map}
use Rattle.std.proofs.lemmas.Bool.{and_parts}
use Rattle.std.proofs.lemmas.List.{append_assoc}
use Rattle.dns_model.specs.Keys.{bytes_eq}
use Rattle.dns_text.proofs.LineShapes.{Line, text_of, is_line}

-- the lines of a value, and those that follow
abbrev pub Block : Type 0 → Type 0
Block A = A → List Line → List Line

-- the lines of values, in order, and those that follow
abbrev pub blocks : {A : Type 0} → Block A → List A → List Line → List Line
blocks block [] more = more
blocks block (v ∷ vs) more = block v (blocks block vs more)

-- a value of a single line
abbrev pub one_line : {A : Type 0} → (A → Line) → Block A
one_line line_of v more = line_of v ∷ more

-- two values, and the lines that follow theirs
pub record Same {A : Type 0} (v w : A) (x y : List Line) : Type 0 where
  pub value : v ≡ w
  pub rest : x ≡ y

-- the lines of a value tell it, where it fits
abbrev pub Tells : {A : Type 0} → Block A → (A → Bool) → Type 0
Tells {A} block fits =
    (v w : A) (x y : List Line) → fits v ≡ true → fits w ≡ true → block v x ≡ block w y → Same v w x y

-- a line tells its value, where it fits
abbrev pub LineTells : {A : Type 0} → (A → Line) → (A → Bool) → Type 0
LineTells {A} line_of fits = (v w : A) → fits v ≡ true → fits w ≡ true → line_of v ≡ line_of w → v ≡ w

-- the next line is one of these
abbrev pub starts : (Line → Bool) → List Line → Bool
starts is_one [] = false
starts is_one (l ∷ ls) = is_one l

-- the line's first word is this one
abbrev pub named : List ℕ → Line → Bool
named word l = bytes_eq l.0 word

-- lines that are the same have the same words
pub word_same : (l m : Line) (i : ℕ) → l ≡ m → get_or l.1 i [] ≡ get_or m.1 i []
word_same l m i h = ap (λ (l : Line). get_or l.1 i []) h

pub first_line : {l m : Line} {ls ms : List Line} → l ∷ ls ≡ m ∷ ms → l ≡ m
first_line h = ap (λ (all : List Line). get_or all 0 ([], [])) h

abbrev others_of : List Line → List Line
others_of [] = []
others_of (l ∷ ls) = ls

pub other_lines : {l m : Line} {ls ms : List Line} → l ∷ ls ≡ m ∷ ms → ls ≡ ms
other_lines h = ap others_of h

pub no_yes : false ≡ true → ⊥
no_yes h = cc

pub one_line_tells : {A : Type 0} (line_of : A → Line) (fits : A → Bool) → LineTells line_of fits
    → Tells (one_line line_of) fits
one_line_tells line_of fits one v w x y first second h = record { value = one v w first second (first_line h); rest = other_lines h }

-- values whose end shows, since no line of another begins as theirs
pub blocks_tell : {A : Type 0} (block : Block A) (fits : A → Bool) (is_one : Line → Bool) → Tells block fits
    → ((v : A) (x : List Line) → starts is_one (block v x) ≡ true)
    → (vs ws : List A) (x y : List Line) → list_all fits vs ≡ true → list_all fits ws ≡ true
    → starts is_one x ≡ false → starts is_one y ≡ false → blocks block vs x ≡ blocks block ws y → Same vs ws x y
blocks_tell block fits is_one tells front [] [] x y first second before after h = record { value = refl; rest = h }
blocks_tell block fits is_one tells front [] (w ∷ ws) x y first second before after h =
    absurd (no_yes (sym before ∙ ap (starts is_one) h ∙ front w (blocks block ws y)))
blocks_tell block fits is_one tells front (v ∷ vs) [] x y first second before after h =
    absurd (no_yes (sym after ∙ ap (starts is_one) (sym h) ∙ front v (blocks block vs x)))
blocks_tell block fits is_one tells front (v ∷ vs) (w ∷ ws) x y first second before after h =
    let parts = and_parts (fits v) (list_all fits vs) first in
    let others = and_parts (fits w) (list_all fits ws) second in
    let one = tells v w (blocks block vs x) (blocks block ws y) parts.0 others.0 h in
    let more = blocks_tell block fits is_one tells front vs ws x y parts.1 others.1 before after one.rest in
    record { value = rw (one.value, more.value) refl; rest = more.rest }

-- values whose number is known
pub counted_tell : {A : Type 0} (block : Block A) (fits : A → Bool) → Tells block fits
    → (vs ws : List A) (x y : List Line) → length vs ≡ length ws → list_all fits vs ≡ true → list_all fits ws ≡ true
    → blocks block vs x ≡ blocks block ws y → Same vs ws x y
counted_tell block fits tells [] [] x y size first second h = record { value = refl; rest = h }
counted_tell block fits tells [] (w ∷ ws) x y size first second h = absurd (omega (arith, size))
counted_tell block fits tells (v ∷ vs) [] x y size first second h = absurd (omega (arith, size))
counted_tell block fits tells (v ∷ vs) (w ∷ ws) x y size first second h =
    let parts = and_parts (fits v) (list_all fits vs) first in
    let others = and_parts (fits w) (list_all fits ws) second in
    let one = tells v w (blocks block vs x) (blocks block ws y) parts.0 others.0 h in
    let more = counted_tell block fits tells vs ws x y (omega (arith, size)) parts.1 others.1 one.rest in
    record { value = rw (one.value, more.value) refl; rest = more.rest }

-- what follows values begins otherwise than each of them
pub blocks_start : {A : Type 0} (block : Block A) (is_one : Line → Bool)
    → ((v : A) (x : List Line) → starts is_one (block v x) ≡ false)
    → (vs : List A) (x : List Line) → starts is_one x ≡ false → starts is_one (blocks block vs x) ≡ false
blocks_start block is_one front [] x after = after
blocks_start block is_one front (v ∷ vs) x after = front v (blocks block vs x)

-- each byte of a word in the lines is above the space
pub blocks_good : {A : Type 0} (block : Block A) (fits : A → Bool)
    → ((v : A) (x : List Line) → fits v ≡ true → list_all is_line x ≡ true → list_all is_line (block v x) ≡ true)
    → (vs : List A) (x : List Line) → list_all fits vs ≡ true → list_all is_line x ≡ true
    → list_all is_line (blocks block vs x) ≡ true
blocks_good block fits one [] x h rest = rest
blocks_good block fits one (v ∷ vs) x h rest =
    let parts = and_parts (fits v) (list_all fits vs) h in
    one v (blocks block vs x) parts.0 (blocks_good block fits one vs x parts.1 rest)

pub one_line_good : {A : Type 0} (line_of : A → Line) (fits : A → Bool)
    → ((v : A) → fits v ≡ true → is_line (line_of v) ≡ true)
    → (v : A) (x : List Line) → fits v ≡ true → list_all is_line x ≡ true
    → list_all is_line (one_line line_of v x) ≡ true
one_line_good line_of fits one v x h rest = rw (one v h) rest

-- the text of values is that of their lines
pub blocks_are : {A : Type 0} (block : Block A) (text : A → List ℕ)
    → ((v : A) (x : List Line) → flat_map text_of (block v x) ≡ text v ++ flat_map text_of x)
    → (vs : List A) (x : List Line) → flat_map text_of (blocks block vs x) ≡ flat_map text vs ++ flat_map text_of x
blocks_are block text one [] x = refl
blocks_are block text one (v ∷ vs) x =
    one v (blocks block vs x)
    ∙ ap (λ t. text v ++ t) (blocks_are block text one vs x)
    ∙ sym (append_assoc (text v) (flat_map text vs) (flat_map text_of x))
