-- What records say, as a loop meets one more.
use Rattle.std.proofs.Common.{◌≡◌, ℕ, ◌+◌, ◌<◌, Option, List, [], ◌∷◌, ◌++◌, length, take, get_or, sym, ap, ◌∙◌}
use Rattle.std.specs.List.{filter_map}
use Rattle.std.specs.Borrow.{Bor}
use Rattle.std.proofs.lemmas.List.{map-append, take_more}
use Rattle.std.proofs.lemmas.List.Elements.{filter_map-append}
use Rattle.dns_aggressive.specs.declared.zone_run.ZoneRun.{ZoneRun}
use Rattle.dns_aggressive.specs.Records.{nsec3_of}
use Rattle.dns_aggressive.specs.Denials.{nsec3s_in}
use Rattle.dns_aggressive.specs.Groups.{lent}
use Rattle.dns_aggressive.specs.Orders.{nth}
use Rattle.dns_aggressive.specs.ZoneRuns.{standing, standing_at}

-- the front of a list with one more element
pub front_more : {X : Type 0} (xs : List X) (i : ℕ) (x : X) → i < length xs → x ≡ get_or xs i x
    → take (i + 1) xs ≡ take i xs ++ x ∷ []
front_more xs i x within read = take_more xs i x within ∙ ap (λ y. take i xs ++ y ∷ []) (sym read)

pub mapped_more : {X Y : Type 0} (f : X → Option Y) (xs : List X) (i : ℕ) (x : X) → i < length xs → x ≡ get_or xs i x
    → filter_map f (take (i + 1) xs) ≡ filter_map f (take i xs) ++ filter_map f (x ∷ [])
mapped_more f xs i x within read = ap (filter_map f) (front_more xs i x within read)
    ∙ filter_map-append f (take i xs) (x ∷ [])

-- the NSEC3 records of a run
pub run_nsec3s_more : (run : ZoneRun) (now : ℕ) (xs : List ℕ) (i : ℕ) → i < length xs
    → nsec3s_in (standing run now (take (i + 1) xs))
    ≡ nsec3s_in (standing run now (take i xs)) ++ nsec3s_in (standing run now (nth xs i ∷ []))
run_nsec3s_more run now xs i within =
    ap (λ (ys : List ℕ). nsec3s_in (standing run now ys)) (take_more xs i 0 within)
    ∙ ap nsec3s_in (filter_map-append (standing_at run.kept.now run.gone now) (take i xs) (nth xs i ∷ []))
    ∙ filter_map-append (λ k. nsec3_of k.item) (standing run now (take i xs)) (standing run now (nth xs i ∷ []))

-- what is lent, with one more
pub lent_more : {X : Type 0} (xs : List (Bor X)) (x : Bor X) → lent (xs ++ x ∷ []) ≡ lent xs ++ x.now ∷ []
lent_more xs x = map-append (λ y. y.now) xs (x ∷ [])
