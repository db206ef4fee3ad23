-- Lines as they are written: what stands between LF bytes, and what is read at each place.
use Rattle.std.proofs.Common.{◌≡◌, ℕ, ◌+◌, true, List, [], ◌∷◌, ◌++◌, map, Option, None, Some, Ok, refl, ap, ◌∙◌}
use Rattle.std.specs.List.{list_all, flat_map}
use Rattle.std.proofs.lemmas.Bool.{and_parts}
use Rattle.dns_text.proofs.LineShapes.{Line, text_of, is_line}
use Rattle.dns_session.specs.LinePlaces.{place, pieces, read_next, one, many_in}
use Rattle.dns_session.specs.Spelled.{lines_text, Unbroken}
use Rattle.dns_session.proofs.SpelledLaws.{pieces_lines}
use Rattle.dns_session.proofs.WordLines.{joined, line_is, line_whole}

lines_are : (ls : List Line) → flat_map text_of ls ≡ lines_text (map joined ls)
lines_are [] = refl
lines_are (l ∷ ls) =
    ap (λ t. t ++ flat_map text_of ls) (line_is l) ∙ ap (λ t. (joined l ++ 10 ∷ []) ++ t) (lines_are ls)

lines_whole : (ls : List Line) → list_all is_line ls ≡ true → Unbroken (map joined ls)
lines_whole [] h = tt
lines_whole (l ∷ ls) h =
    let parts = and_parts (is_line l) (list_all is_line ls) h in (line_whole l parts.0, lines_whole ls parts.1)

-- the pieces from a line on
abbrev pub left_of : List Line → List (List ℕ)
left_of [] = [] ∷ []
left_of (l ∷ ls) = joined l ∷ left_of ls

left_is : (ls : List Line) → map joined ls ++ [] ∷ [] ≡ left_of ls
left_is [] = refl
left_is (l ∷ ls) = ap (λ ps. joined l ∷ ps) (left_is ls)

-- the pieces of a text of lines
pub text_pieces : (ls : List Line) → list_all is_line ls ≡ true → pieces 10 (flat_map text_of ls) ≡ left_of ls
text_pieces ls h =
    ap (pieces 10) (lines_are ls) ∙ pieces_lines (map joined ls) (lines_whole ls h) ∙ left_is ls

-- ---- one line, at its place

pub read_line : {X : Type 0} (form : List ℕ → Option X) (number : ℕ) (l : Line) (ls : List Line) (x : X)
    → form (joined l) ≡ Some x
    → read_next form (place number (left_of (l ∷ ls))) ≡ Some (x, place (number + 1) (left_of ls))
read_line form number l [] x h = rw h refl
read_line form number l (m ∷ ms) x h = rw h refl

pub one_line_read : {X : Type 0} (form : List ℕ → Option X) (number : ℕ) (l : Line) (ls : List Line) (x : X)
    → form (joined l) ≡ Some x
    → one form (place number (left_of (l ∷ ls))) ≡ Ok (x, place (number + 1) (left_of ls))
unfolding one
one_line_read form number l [] x h = rw h refl
one_line_read form number l (m ∷ ms) x h = rw h refl

-- the next line hasn't the form
abbrev pub Stops : {X : Type 0} → (List ℕ → Option X) → List Line → Type 0
Stops form [] = Unit {0}
Stops form (l ∷ ls) = form (joined l) ≡ None

pub none_read : {X : Type 0} (form : List ℕ → Option X) (number : ℕ) (ls : List Line) → Stops form ls
    → read_next form (place number (left_of ls)) ≡ None
none_read form number [] stops = refl
none_read form number (l ∷ []) stops = rw stops refl
none_read form number (l ∷ m ∷ ms) stops = rw stops refl

pub stop_many : {X : Type 0} (form : List ℕ → Option X) (number : ℕ) (ls : List Line) → Stops form ls
    → many_in form number (left_of ls) ≡ ([], place number (left_of ls))
unfolding many_in
stop_many form number [] stops = refl
stop_many form number (l ∷ []) stops = rw stops refl
stop_many form number (l ∷ m ∷ ms) stops = rw stops refl

pub more_many : {X : Type 0} (form : List ℕ → Option X) (number : ℕ) (l : Line) (ls : List Line) (x : X)
    → form (joined l) ≡ Some x
    → many_in form number (left_of (l ∷ ls))
    ≡ (x ∷ (many_in form (number + 1) (left_of ls)).0, (many_in form (number + 1) (left_of ls)).1)
unfolding many_in
more_many form number l [] x h = rw h refl
more_many form number l (m ∷ ms) x h = rw h refl
