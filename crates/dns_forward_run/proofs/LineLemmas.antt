-- Lines of seats, one for each.
use Rattle.std.proofs.Common.{◌≡◌, ◌∙◌, ℕ, suc, List, [], ◌∷◌, ◌++◌, map, length, Option, Some, Result, Ok, Err, sym, ap, subst, arith}
use Rattle.std.specs.Prelude.{All, IfOk, IfSome, Vec}
use Rattle.std.proofs.lemmas.List.{length-map, map-append}
use Rattle.dns_listener.specs.Listening.{PortCountsValue}
use Rattle.dns_forward_run.specs.Retired.{AreLinesOf, IsLineOf}
use Rattle.dns_forward_run.specs.Steps.{WithLine}
use Rattle.dns_forward_run.specs.declared.lines.SeatLine.{SeatLine}

-- each has a line, by what it met
pub lines_of : {X : Type 0} (count : ℕ) (line_by : X → Option SeatLine) (met : X → PortCountsValue) (xs : List X)
    (lines : List SeatLine) → map Some lines ≡ map line_by xs
    → All (λ x. IfSome (line_by x) (λ line. IsLineOf count line (met x))) xs → AreLinesOf count lines (map met xs)
lines_of count line_by met [] [] same each = tt
lines_of count line_by met [] (line ∷ lines) same each = absurd cc
lines_of count line_by met (x ∷ xs) [] same each = absurd cc
lines_of count line_by met (x ∷ xs) (line ∷ lines) same each =
    let first : Some line ≡ line_by x = cc in
    let rest : map Some lines ≡ map line_by xs = cc in (
      subst (λ o. IfSome o (λ l. IsLineOf count l (met x))) (sym first) (each 0 x (omega arith)),
      lines_of count line_by met xs lines rest (λ k d short. each (suc k) d (omega arith)),
    )

pub as_many : {X : Type 0} (line_by : X → Option SeatLine) (xs : List X) (lines : List SeatLine)
    → map Some lines ≡ map line_by xs → length lines ≡ length xs
as_many line_by xs lines same =
    sym (length-map lines (λ line. Some line)) ∙ (ap length same ∙ length-map xs line_by)

-- one more behind others
pub line_more : {X : Type 0} (line_by : X → Option SeatLine) (xs : List X) (x : X) (all : List (Option SeatLine))
    (before : List SeatLine) → map Some before ≡ map line_by xs → all ≡ map Some before ++ line_by x ∷ []
    → all ≡ map line_by (xs ++ x ∷ [])
line_more line_by xs x all before same is =
    is ∙ (ap (λ l. l ++ line_by x ∷ []) same ∙ sym (map-append line_by xs (x ∷ [])))

-- the same of lines that may have ended
pub lines_more : {X Z E : Type 0} (line_by : X → Option SeatLine) (xs : List X) (x : X) (line : Option SeatLine)
    (old new : Result (Vec SeatLine Z) E) → WithLine old line new → line ≡ line_by x
    → IfOk old (λ before. map Some before.items ≡ map line_by xs)
    → IfOk new (λ all. map Some all.items ≡ map line_by (xs ++ x ∷ []))
lines_more line_by xs x line (Ok before) (Ok all) more is same =
    line_more line_by xs x (map Some all.items) before.items same
    (subst (λ l. map Some all.items ≡ map Some before.items ++ l ∷ []) is more)
lines_more line_by xs x line (Err e) (Ok all) more is same = absurd more
lines_more line_by xs x line old (Err e) more is same = tt

-- what holds of each holds of the last
pub last_in : {X : Type 0} (P : X → Type 0) (xs : List X) (x : X) → All P (xs ++ x ∷ []) → P x
last_in P [] x each = each 0 x (omega arith)
last_in P (y ∷ xs) x each = last_in P xs x (λ k d short. each (suc k) d (omega arith))
