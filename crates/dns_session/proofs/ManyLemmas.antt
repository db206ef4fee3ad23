-- Reading lines of one form, line by line.
use Rattle.std.proofs.Common.{◌≡◌, ℕ, ◌+◌, ◌<◌, List, [], ◌∷◌, ◌++◌, length, Option, None, Some, refl, sym, ap, ◌∙◌, arith, append_assoc, append-nil}
use Rattle.std.proofs.lemmas.Option.{same_Some}
use Rattle.dns_session.specs.LinePlaces.{Place, place, next_in, next_line, many_in, many}

same_first : (a c : List ℕ) (b d : Place) → ◌≡◌ {A = Option (List ℕ × Place)} (Some (a, b)) (Some (c, d)) → a ≡ c
same_first a c b d h = ap (λ p. p.0) (same_Some (a, b) (c, d) h)

same_second : (a c : List ℕ) (b d : Place) → ◌≡◌ {A = Option (List ℕ × Place)} (Some (a, b)) (Some (c, d)) → b ≡ d
same_second a c b d h = ap (λ p. p.1) (same_Some (a, b) (c, d) h)

-- what was read before stands in front
abbrev pub with_front : {X : Type 0} → List X → List X × Place → List X × Place
with_front xs read = (xs ++ read.0, read.1)

more_in : {X : Type 0} (form : List ℕ → Option X) (number : ℕ) (rest : List (List ℕ)) (line : List ℕ) (after : Place)
    (x : X)
    → next_in number rest ≡ Some (line, after) → Some x ≡ form line
    → many_in form number rest ≡ (x ∷ (many form after).0, (many form after).1)
unfolding many_in
more_in form number [] line after x h e = cc
more_in form number (a ∷ []) line after x h e = cc
more_in form number (a ∷ b ∷ rest) line after x h e =
    let same : a ≡ line = same_first _ _ _ _ h in
    let then : place (number + 1) (b ∷ rest) ≡ after = same_second _ _ _ _ h in
    rw (same, ← e, ← then) refl

stop_in : {X : Type 0} (form : List ℕ → Option X) (number : ℕ) (rest : List (List ℕ)) (line : List ℕ) (after : Place)
    → next_in number rest ≡ Some (line, after) → None ≡ form line → many_in form number rest ≡ ([], place number rest)
unfolding many_in
stop_in form number [] line after h e = cc
stop_in form number (a ∷ []) line after h e = cc
stop_in form number (a ∷ b ∷ rest) line after h e = let same : a ≡ line = same_first _ _ _ _ h in rw (same, ← e) refl

end_in : {X : Type 0} (form : List ℕ → Option X) (number : ℕ) (rest : List (List ℕ)) → None ≡ next_in number rest
    → many_in form number rest ≡ ([], place number rest)
unfolding many_in
end_in form number [] h = refl
end_in form number (a ∷ []) h = refl
end_in form number (a ∷ b ∷ rest) h = cc

shorter_in : (number : ℕ) (rest : List (List ℕ)) (line : List ℕ) (after : Place)
    → next_in number rest ≡ Some (line, after) → length after.pieces < length rest
shorter_in number [] line after h = cc
shorter_in number (a ∷ []) line after h = cc
shorter_in number (a ∷ b ∷ rest) line after h =
    let then : place (number + 1) (b ∷ rest) ≡ after = same_second _ _ _ _ h in
    rw (← then) (omega arith)

-- one more line of the form
pub one_more : {X : Type 0} (form : List ℕ → Option X) (front : List X) (at start : Place) (line : List ℕ)
    (after : Place) (x : X)
    → with_front front (many form at) ≡ many form start → next_line at ≡ Some (line, after) → Some x ≡ form line
    → with_front (front ++ x ∷ []) (many form after) ≡ many form start
one_more form front at start line after x so_far h e =
    let more = more_in form at.number at.pieces line after x h e in
    rw append_assoc (ap (with_front front) (sym more) ∙ so_far)

-- a line of another form ends them
pub stops : {X : Type 0} (form : List ℕ → Option X) (front : List X) (at start : Place) (line : List ℕ) (after : Place)
    → with_front front (many form at) ≡ many form start → next_line at ≡ Some (line, after) → None ≡ form line
    → many form start ≡ (front, at)
stops form front at start line after so_far h e =
    rw (stop_in form at.number at.pieces line after h e, append-nil) at (sym so_far)

-- so does the end of the text
pub ends : {X : Type 0} (form : List ℕ → Option X) (front : List X) (at start : Place)
    → with_front front (many form at) ≡ many form start → None ≡ next_line at → many form start ≡ (front, at)
ends form front at start so_far h = rw (end_in form at.number at.pieces h, append-nil) at (sym so_far)

pub shorter : (at : Place) (line : List ℕ) (after : Place) → next_line at ≡ Some (line, after)
    → length after.pieces < length at.pieces
shorter at line after h = shorter_in at.number at.pieces line after h
