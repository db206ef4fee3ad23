-- Two lists whose elements belong together, place by place.
use Rattle.std.specs.Prelude.{List, [], ◌∷◌}

-- the lists are as long, and so are related what stands at one place
abbrev pub ArePaired : {X Y : Type 0} → (X → Y → Type 0) → List X → List Y → Type 0
ArePaired Related [] [] = Unit {0}
ArePaired Related (x ∷ xs) (y ∷ ys) = Related x y × ArePaired Related xs ys
ArePaired Related _ _ = ⊥
