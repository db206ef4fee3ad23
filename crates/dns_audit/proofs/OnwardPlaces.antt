-- A text that goes on after its last line is read as before, up to there.
use Rattle.std.proofs.Common.{◌≡◌, ℕ, ◌+◌, ◌<◌, List, [], ◌∷◌, ◌++◌, length, Option, None, Some, Result, Ok, refl, ap, ◌∙◌, arith}
use Rattle.std.specs.Option.{option_map, option_map_or}
use Rattle.dns_model.specs.Gives.{or_error}
use Rattle.dns_audit.proofs.FromSteps.{same_ok}
use Rattle.dns_session.specs.LinePlaces.{Place, place, next_in, one, optional, many_in, before_more}

-- these pieces with others in place of the last
abbrev pub onward : List (List ℕ) → List (List ℕ) → List (List ℕ)
onward more [] = more
onward more (p ∷ []) = more
onward more (p ∷ q ∷ ps) = p ∷ onward more (q ∷ ps)

abbrev pub going_on : List (List ℕ) → Place → Place
going_on more at = place at.number (onward more at.pieces)

abbrev read_on : {X : Type 0} → List (List ℕ) → X × Place → X × Place
read_on more read = (read.0, going_on more read.1)

-- the pieces after whole lines are replaced
pub onward_lines : (more lines : List (List ℕ)) → onward more (lines ++ [] ∷ []) ≡ lines ++ more
onward_lines more [] = refl
onward_lines more (l ∷ []) = refl
onward_lines more (l ∷ k ∷ lines) = ap (λ ps. l ∷ ps) (onward_lines more (k ∷ lines))

next_on : (m : List ℕ) (more : List (List ℕ)) (number : ℕ) (l k : List ℕ) (rest : List (List ℕ))
    → next_in number (l ∷ onward (m ∷ more) (k ∷ rest)) ≡ Some (l, place (number + 1) (onward (m ∷ more) (k ∷ rest)))
next_on m more number l k [] = refl
next_on m more number l k (j ∷ rest) = refl

-- ---- one line

abbrev or_bad : {X : Type 0} → ℕ → Place → Option X → Result (X × Place) ℕ
or_bad number after said = or_error number (option_map (λ x. (x, after)) said)

one_by : {X : Type 0} (more : List (List ℕ)) (number : ℕ) (here : Place) (said : Option X) (x : X) (after : Place)
    → or_bad number here said ≡ Ok (x, after)
    → or_bad number (going_on more here) said ≡ Ok (x, going_on more after)
one_by more number here None x after h = cc
one_by more number here (Some y) x after h =
    ap (λ r. Ok (read_on more r)) (same_ok (y, here) (x, after) h)

pub one_on : {X : Type 0} (form : List ℕ → Option X) (m : List ℕ) (more : List (List ℕ)) (number : ℕ)
    (ps : List (List ℕ))
    (x : X) (after : Place) → one form (place number ps) ≡ Ok (x, after)
    → one form (place number (onward (m ∷ more) ps)) ≡ Ok (x, going_on (m ∷ more) after)
unfolding one
one_on form m more number [] x after h = cc
one_on form m more number (l ∷ []) x after h = cc
one_on form m more number (l ∷ k ∷ rest) x after h =
    rw (next_on m more number l k rest) (one_by (m ∷ more) number (place (number + 1) (k ∷ rest)) (form l) x after h)

-- ---- as many lines as there are, where another line follows

abbrev HasLine : List (List ℕ) → Type 0
HasLine ps = 1 < length ps

many_step : {X : Type 0} (form : List ℕ → Option X) (m : List ℕ) (more : List (List ℕ)) (number : ℕ) (l k : List ℕ)
    (rest : List (List ℕ))
    → many_in form number (l ∷ onward (m ∷ more) (k ∷ rest))
    ≡ before_more (form l) (place number (l ∷ onward (m ∷ more) (k ∷ rest)))
    (many_in form (number + 1) (onward (m ∷ more) (k ∷ rest)))
unfolding many_in
many_step form m more number l k [] = refl
many_step form m more number l k (j ∷ rest) = refl

many_by : {X : Type 0} (more : List (List ℕ)) (here : Place) (said : Option X) (others more_read : List X × Place)
    → (HasLine others.1.pieces → more_read ≡ read_on more others)
    → HasLine (before_more said here others).1.pieces
    → before_more said (going_on more here) more_read ≡ read_on more (before_more said here others)
many_by more here None others more_read same some = refl
many_by more here (Some x) others more_read same some = rw (same some) refl

pub many_on : {X : Type 0} (form : List ℕ → Option X) (m : List ℕ) (more : List (List ℕ)) (number : ℕ)
    (ps : List (List ℕ))
    → HasLine (many_in form number ps).1.pieces
    → many_in form number (onward (m ∷ more) ps) ≡ read_on (m ∷ more) (many_in form number ps)
unfolding many_in
many_on form m more number [] some = absurd (omega (arith, some))
many_on form m more number (l ∷ []) some = absurd (omega (arith, some))
many_on form m more number (l ∷ k ∷ rest) some =
    many_step form m more number l k rest
    ∙ many_by (m ∷ more) (place number (l ∷ k ∷ rest)) (form l) (many_in form (number + 1) (k ∷ rest))
    (many_in form (number + 1) (onward (m ∷ more) (k ∷ rest))) (many_on form m more (number + 1) (k ∷ rest)) some

abbrev form_or_none : {X : Type 0} → Place → Place → Option X → Option X × Place
form_or_none {X} here after said =
    option_map_or (λ (x : X × Place). (Some x.0, x.1)) (option_map (λ x. (x, after)) said) (None, here)

optional_by : {X : Type 0} (more : List (List ℕ)) (here after : Place) (said : Option X)
    → form_or_none (going_on more here) (going_on more after) said ≡ read_on more (form_or_none here after said)
optional_by more here after None = refl
optional_by more here after (Some x) = refl

pub optional_on : {X : Type 0} (form : List ℕ → Option X) (m : List ℕ) (more : List (List ℕ)) (number : ℕ)
    (ps : List (List ℕ))
    → HasLine (optional form (place number ps)).1.pieces
    → optional form (place number (onward (m ∷ more) ps)) ≡ read_on (m ∷ more) (optional form (place number ps))
unfolding optional
optional_on form m more number [] some = absurd (omega (arith, some))
optional_on form m more number (l ∷ []) some = absurd (omega (arith, some))
optional_on form m more number (l ∷ k ∷ rest) some =
    rw (next_on m more number l k rest)
    (optional_by (m ∷ more) (place number (l ∷ k ∷ rest)) (place (number + 1) (k ∷ rest)) (form l))

-- where a line was read there is one
pub one_has : {X : Type 0} (form : List ℕ → Option X) (number : ℕ) (ps : List (List ℕ)) (x : X) (after : Place)
    → one form (place number ps) ≡ Ok (x, after) → HasLine ps
unfolding one
one_has form number [] x after h = cc
one_has form number (l ∷ []) x after h = cc
one_has form number (l ∷ k ∷ rest) x after h = omega arith

-- where a line is left after some were read there was one
pub many_has : {X : Type 0} (form : List ℕ → Option X) (number : ℕ) (ps : List (List ℕ))
    → HasLine (many_in form number ps).1.pieces → HasLine ps
unfolding many_in
many_has form number [] some = absurd (omega (arith, some))
many_has form number (l ∷ []) some = absurd (omega (arith, some))
many_has form number (l ∷ k ∷ rest) some = omega arith
