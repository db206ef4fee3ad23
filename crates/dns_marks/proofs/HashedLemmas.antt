-- Records of a class, and sets with their marks, as a loop meets one more. And what decides before the hashes.
use Rattle.std.proofs.Common.{◌≡◌, ℕ, Bool, true, false, ◌+◌, ◌==◌, ◌<◌, ◌||◌, List, [], ◌∷◌, ◌++◌, length, map, take, get_or, refl, sym, ap, ◌∙◌}
use Rattle.std.proofs.lemmas.List.{map-append, take_more}
use Rattle.std.proofs.lemmas.List.Elements.{filter-append}
use Rattle.dns_model.specs.declared.section.Section.TheVariants.{Authority}
use Rattle.dns_model.specs.Records.{Rr, RrSet}
use Rattle.dns_rules.specs.ChainedSets.{ChainedSet, bare}
use Rattle.dns_marks.specs.ZoneVerdicts.{of_class, marked_set}

pub class_more : (class : ℕ) (records : List Rr) (i : ℕ) (x : Rr) → i < length records → x ≡ get_or records i x
    → of_class class (take (i + 1) records) ≡ of_class class (take i records) ++ of_class class (x ∷ [])
class_more class records i x within same =
    ap (of_class class) (take_more records i x within ∙ ap (λ y. take i records ++ y ∷ []) (sym same))
    ∙ filter-append (λ (r : Rr). class == r.class) (take i records) (x ∷ [])

pub sets_more : (sets : List ChainedSet) (met : List RrSet) (c : ChainedSet) (set : RrSet) → bare sets ≡ map (marked_set Authority) met
    → c.judged ≡ marked_set Authority set → bare (sets ++ c ∷ []) ≡ map (marked_set Authority) (met ++ set ∷ [])
sets_more sets met c set so_far one =
    map-append (λ (x : ChainedSet). x.judged) sets (c ∷ []) ∙ ap (λ xs. xs ++ c.judged ∷ []) so_far
    ∙ ap (λ j. map (marked_set Authority) met ++ j ∷ []) one ∙ sym (map-append (marked_set Authority) met (set ∷ []))

-- ---- what stands in the middle is looked at last

pub first_decides : (a h b : Bool) → true ≡ (a || b) → true ≡ (a || (h || b))
first_decides true h b is = refl
first_decides false true b is = refl
first_decides false false b is = is

pub last_decides : (a h b : Bool) → false ≡ (a || b) → h ≡ (a || (h || b))
last_decides true h b is = cc
last_decides false true b is = refl
last_decides false false b is = is
