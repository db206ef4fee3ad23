-- The live records of a zone, group by group.
use Rattle.std.proofs.Common.{◌≡◌, ℕ, Bool, true, false, cond, ◌&&◌, List, [], ◌∷◌, map, Option, None, Some, refl, sym, ap, ◌∙◌}
use Rattle.std.specs.Borrow.{Bor}
use Rattle.std.specs.List.{filter, filter_map}
use Rattle.std.proofs.lemmas.List.{take-map}
use Rattle.dns_model.specs.Names.{Labels}
use Rattle.dns_model.specs.Owned.{OwnedNsec3}
use Rattle.dns_rules.specs.Nsec3Verdict.{Parameters, parameters_in}
use Rattle.dns_aggressive.specs.declared.kept.KeptRecord.{KeptRecord}
use Rattle.dns_aggressive.specs.declared.kept.KeptRecord.TheVariants.{Nsec, Nsec3}
use Rattle.dns_aggressive.specs.Records.{KeptValue, way_of}
use Rattle.dns_aggressive.specs.Denials.{at_most, group, hashed_ways, distinct, is_live_in, is_of_way, nsecs_in, nsec3s_in, same_way}
use Rattle.dns_aggressive.specs.Groups.{lent, of_way}

-- ---- NSEC

nsec_step : (b : Bool) (item : KeptRecord) (xs ys : List KeptValue) (z : Labels) (e : ℕ) → nsecs_in xs ≡ nsecs_in ys
    → nsecs_in (cond b (record { zone = z; item = item; expires = e } ∷ xs) xs)
    ≡ nsecs_in (cond (b && is_of_way None (way_of item)) (record { zone = z; item = item; expires = e } ∷ ys) ys)
nsec_step true (Nsec n) xs ys z e h = ap (λ ns. n ∷ ns) h
nsec_step true (Nsec3 n) xs ys z e h = h
nsec_step false (Nsec n) xs ys z e h = h
nsec_step false (Nsec3 n) xs ys z e h = h

-- the NSEC records of a zone are those of their group
pub nsecs_of_group : (now : ℕ) (zone : Labels) (kept : List KeptValue)
    → nsecs_in (filter (is_live_in now zone) kept) ≡ nsecs_in (group now zone kept None)
nsecs_of_group now zone [] = refl
nsecs_of_group now zone (k ∷ kept) =
    nsec_step (is_live_in now zone k) k.item (filter (is_live_in now zone) kept)
    (group now zone kept None) k.zone k.expires
    (nsecs_of_group now zone kept)

-- ---- NSEC3

abbrev pub live : ℕ → Labels → List KeptValue → List OwnedNsec3
live now zone kept = nsec3s_in (filter (is_live_in now zone) kept)

nsec3_step : (b : Bool) (way : Parameters) (item : KeptRecord) (xs ys : List KeptValue) (z : Labels) (e : ℕ)
    → of_way way (nsec3s_in xs) ≡ nsec3s_in ys
    → of_way way (nsec3s_in (cond b (record { zone = z; item = item; expires = e } ∷ xs) xs))
    ≡ nsec3s_in (cond (b && is_of_way (Some way) (way_of item)) (record { zone = z; item = item; expires = e } ∷ ys) ys)
nsec3_step true way (Nsec n) xs ys z e h = h
nsec3_step true way (Nsec3 n) xs ys z e h = kept (same_way way (parameters_in n)) n
  where
    kept : (c : Bool) (n : OwnedNsec3) → cond c (n ∷ of_way way (nsec3s_in xs)) (of_way way (nsec3s_in xs))
        ≡ nsec3s_in (cond c (record { zone = z; item = Nsec3 n; expires = e } ∷ ys) ys)
    kept true n = ap (λ ns. n ∷ ns) h
    kept false n = h
nsec3_step false way (Nsec n) xs ys z e h = h
nsec3_step false way (Nsec3 n) xs ys z e h = h

-- the NSEC3 records of a zone that are hashed in a way are those of its group
pub nsec3s_of_group : (now : ℕ) (zone : Labels) (way : Parameters) (kept : List KeptValue)
    → of_way way (live now zone kept) ≡ nsec3s_in (group now zone kept (Some way))
nsec3s_of_group now zone way [] = refl
nsec3s_of_group now zone way (k ∷ kept) =
    nsec3_step (is_live_in now zone k) way k.item (filter (is_live_in now zone) kept)
    (group now zone kept (Some way)) k.zone k.expires
    (nsec3s_of_group now zone way kept)

way_step : (item : KeptRecord) (xs : List KeptValue) (z : Labels) (e : ℕ)
    → map parameters_in (nsec3s_in xs) ≡ filter_map (λ k. way_of k.item) xs
    → map parameters_in (nsec3s_in (record { zone = z; item = item; expires = e } ∷ xs))
    ≡ filter_map (λ k. way_of k.item) (record { zone = z; item = item; expires = e } ∷ xs)
way_step (Nsec n) xs z e h = h
way_step (Nsec3 n) xs z e h = ap (λ ws. parameters_in n ∷ ws) h

ways_of : (xs : List KeptValue) → map parameters_in (nsec3s_in xs) ≡ filter_map (λ k. way_of k.item) xs
ways_of [] = refl
ways_of (k ∷ xs) = way_step k.item xs k.zone k.expires (ways_of xs)

-- how the live NSEC3 records of a zone are hashed
pub ways_of_live : (now : ℕ) (zone : Labels) (kept : List KeptValue)
    → distinct (map parameters_in (live now zone kept)) ≡ hashed_ways now zone kept
ways_of_live now zone kept = ap distinct (ways_of (filter (is_live_in now zone) kept))

-- ---- the ways that are tried

front_map : {X Y : Type 0} (f : X → Y) (most : Option ℕ) (xs : List X)
    → map f (at_most most xs) ≡ at_most most (map f xs)
front_map f None xs = refl
front_map f (Some n) xs = sym (take-map f n xs)

-- the first records of the groups, so many at the most, tell the ways that are tried
pub ways_of_firsts : (most : Option ℕ) (firsts : List (Bor OwnedNsec3)) (list : List OwnedNsec3) (now : ℕ)
    (zone : Labels)
    (kept : List KeptValue) → map parameters_in (lent firsts) ≡ distinct (map parameters_in list)
    → list ≡ live now zone kept
    → map parameters_in (lent (at_most most firsts)) ≡ at_most most (hashed_ways now zone kept)
ways_of_firsts most firsts list now zone kept heads is =
    ap (map parameters_in) (front_map (λ n. n.now) most firsts) ∙ front_map parameters_in most (lent firsts)
    ∙ ap (at_most most) (heads ∙ ap (λ ns. distinct (map parameters_in ns)) is ∙ ways_of_live now zone kept)
