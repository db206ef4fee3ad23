-- Reading a part so many times.
use Rattle.std.proofs.Common.{◌≡◌, ℕ, zero, suc, ◌-◌, ◌<◌, ◌≤◌, List, [], ◌∷◌, ◌++◌, map, Result, Ok, Err, refl, sym, ap, ◌∙◌, arith, append_assoc, append-nil}
use Rattle.std.proofs.lemmas.List.{map-append}
use Rattle.dns_model.specs.ResultSteps.{◌>>=◌}
use Rattle.dns_session.specs.LinePlaces.{Place}
use Rattle.dns_session.specs.Stops.{StopsAs}
use Rattle.dns_session.specs.declared.stop.SessionStop.{SessionStop}
use Rattle.dns_session.specs.declared.stop.SessionStop.TheVariants.{BadLine, NoMemory}
use Rattle.dns_session.specs.LinePlaces.{one}
use Rattle.dns_evidence.specs.Link.{link_value}
use Rattle.dns_evidence.specs.declared.link.Link.{Link}
use Rattle.dns_model.specs.Chains.{LinkValue}
use Rattle.dns_audit.specs.ReportLines.{link_line}
use Rattle.dns_audit.specs.ReportGrammar.{times}

-- what was read stands before what follows
abbrev pub with_read : {X : Type 0} → List X → Result (List X × Place) ℕ → Result (List X × Place) ℕ
with_read front (Ok read) = Ok (front ++ read.0, read.1)
with_read front (Err number) = Err number

with_none : {X : Type 0} (r : Result (List X × Place) ℕ) → with_read [] r ≡ r
with_none (Ok read) = refl
with_none (Err number) = refl

-- at the start nothing was read
pub none_read : {X : Type 0} (r : Result (List X × Place) ℕ) → with_read [] r ≡ r
none_read r = with_none r

pub with_more : {X : Type 0} (front : List X) (x : X) (r : Result (List X × Place) ℕ)
    → with_read (front ++ x ∷ []) r ≡ with_read front (r >>= λ others. Ok (x ∷ others.0, others.1))
with_more front x (Ok read) = rw (append_assoc front (x ∷ []) read.0) refl
with_more front x (Err number) = refl

step_times : {X : Type 0} (part : Place → Result (X × Place) ℕ) (n : ℕ) (at after : Place) (x : X) → 0 < n
    → part at ≡ Ok (x, after)
    → times part n at ≡ (times part (n - 1) after >>= λ others. Ok (x ∷ others.0, others.1))
unfolding times
step_times part zero at after x some h = absurd (omega (arith, some))
step_times part (suc n) at after x some h = let size : suc n - 1 ≡ n = omega arith in rw (size, h) refl

-- one more part was read
pub more_times : {X : Type 0} (part : Place → Result (X × Place) ℕ) (front : List X) (n : ℕ) (at after : Place) (x : X)
    (whole : Result (List X × Place) ℕ)
    → 0 < n → with_read front (times part n at) ≡ whole → part at ≡ Ok (x, after)
    → with_read (front ++ x ∷ []) (times part (n - 1) after) ≡ whole
more_times part front n at after x whole some so_far h =
    with_more front x (times part (n - 1) after) ∙ ap (with_read front) (sym (step_times part n at after x some h))
    ∙ so_far

bad_times : {X : Type 0} (part : Place → Result (X × Place) ℕ) (n : ℕ) (at : Place) (number : ℕ) → 0 < n
    → part at ≡ Err number → times part n at ≡ Err number
unfolding times
bad_times part zero at number some h = absurd (omega (arith, some))
bad_times part (suc n) at number some h = rw h refl

-- a part that stops ends the reading
pub stop_times : {X : Type 0} (part : Place → Result (X × Place) ℕ) (front : List X) (n : ℕ) (at : Place)
    (whole : Result (List X × Place) ℕ) (stop : SessionStop)
    → 0 < n → with_read front (times part n at) ≡ whole → StopsAs stop (part at) → StopsAs stop whole
stop_times part front n at whole (BadLine number) some so_far h =
    sym so_far ∙ ap (with_read front) (bad_times part n at number some h)
stop_times part front n at whole NoMemory some so_far h = tt

-- no part is left
pub end_times : {X : Type 0} (part : Place → Result (X × Place) ℕ) (front : List X) (n : ℕ) (at : Place)
    (whole : Result (List X × Place) ℕ)
    → n ≤ 0 → with_read front (times part n at) ≡ whole → whole ≡ Ok (front, at)
unfolding times
end_times part front zero at whole none so_far = sym so_far ∙ ap (λ xs. Ok (xs, at)) (append-nil front)
end_times part front (suc n) at whole none so_far = absurd (omega (arith, none))

-- one more link was read
pub more_links : (front : List Link) (link : Link) (n : ℕ) (at after : Place)
    (whole : Result (List LinkValue × Place) ℕ)
    → 0 < n → with_read (map link_value front) (times (one link_line) n at) ≡ whole
    → one link_line at ≡ Ok (link_value link, after)
    → with_read (map link_value (front ++ link ∷ [])) (times (one link_line) (n - 1) after) ≡ whole
more_links front link n at after whole some so_far h =
    rw (map-append link_value front (link ∷ []))
    (more_times (one link_line) (map link_value front) n at after (link_value link) whole some so_far h)
