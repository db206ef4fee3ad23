-- Where the moments of sights fall, one sight after another.
use Rattle.std.proofs.Common.{◌≡◌, ℕ, ◌+◌, ◌<◌, ◌≤◌, Bool, true, false, List, [], ◌∷◌, drop, length, map, Option, None, Some, IfSome, refl, sym, ap, ◌∙◌, arith}
use Rattle.std.specs.Prelude.{nat_lt, slice_index_or, if◌then◌else◌}
use Rattle.std.specs.Option.{option_map}
use Rattle.std.proofs.lemmas.List.{drop_all, drop_more}
use Rattle.dns_roll.specs.RollGrammar.{fall_after, fall_of}
use Rattle.dns_roll.specs.RollValue.{SightValue}

-- the fall among some sights, of which so many come later than the first of all
abbrev pub fall_left : ℕ → ℕ → List SightValue → Option ℕ
fall_left count last rest = option_map (λ n. n + count) (fall_after last (map (λ s. s.moment) rest))

sights_left : (sights : List SightValue) (i : ℕ) (s : SightValue) → i < length sights → s ≡ slice_index_or sights i s
    → drop i sights ≡ s ∷ drop (i + 1) sights
sights_left sights i s h at = drop_more sights i s h ∙ ap (λ x. x ∷ drop (i + 1) sights) (sym at)

plus_none : (n : ℕ) → n + 0 ≡ n
plus_none n = omega arith

none_plus : (n : ℕ) → 0 + n ≡ n
none_plus n = omega arith

no_count : (o : Option ℕ) → o ≡ option_map (λ n. n + 0) o
no_count None = refl
no_count (Some n) = ap Some (sym (plus_none n))

-- none was looked at
pub from_first : (sights : List SightValue) → fall_of sights ≡ fall_left 0 0 sights
from_first sights = no_count (fall_of sights)

-- the next moment is below the last
pub falls_here : (sights : List SightValue) (i last : ℕ) (s : SightValue) → i < length sights
    → s ≡ slice_index_or sights i s
    → fall_of sights ≡ fall_left i last (drop i sights) → nat_lt s.moment last ≡ true → fall_of sights ≡ Some i
unfolding fall_after
falls_here sights i last s h at left below =
    left
    ∙ ap (fall_left i last) (sights_left sights i s h at)
    ∙ ap (λ b. option_map (λ n. n + i) (if b then Some 0 else option_map (λ n. n + 1) (fall_after s.moment (map
    (λ s. s.moment) (drop (i + 1) sights))))) below
    ∙ ap Some (none_plus i)

plus_again : (n i : ℕ) → n + 1 + i ≡ n + (i + 1)
plus_again n i = omega arith

more_plus : (o : Option ℕ) (i : ℕ)
    → option_map (λ n. n + i) (option_map (λ n. n + 1) o) ≡ option_map (λ n. n + (i + 1)) o
more_plus None i = refl
more_plus (Some n) i = ap Some (plus_again n i)

-- it isn't
pub falls_later : (sights : List SightValue) (i last : ℕ) (s : SightValue) → i < length sights
    → s ≡ slice_index_or sights i s
    → fall_of sights ≡ fall_left i last (drop i sights) → nat_lt s.moment last ≡ false
    → fall_of sights ≡ fall_left (i + 1) s.moment (drop (i + 1) sights)
unfolding fall_after
falls_later sights i last s h at left above =
    left
    ∙ ap (fall_left i last) (sights_left sights i s h at)
    ∙ ap (λ b. option_map (λ n. n + i) (if b then Some 0 else option_map (λ n. n + 1) (fall_after s.moment (map
    (λ s. s.moment) (drop (i + 1) sights))))) above
    ∙ more_plus (fall_after s.moment (map (λ s. s.moment) (drop (i + 1) sights))) i

-- none is left
pub falls_never : (sights : List SightValue) (i last : ℕ) → length sights ≤ i
    → fall_of sights ≡ fall_left i last (drop i sights)
    → fall_of sights ≡ None
unfolding fall_after
falls_never sights i last h left = left ∙ ap (fall_left i last) (drop_all i sights h)
