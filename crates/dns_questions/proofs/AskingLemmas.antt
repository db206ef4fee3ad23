-- Signatures that ask, one after another, with their asks.
use Rattle.std.proofs.Common.{◌≡◌, true, false, List, [], ◌∷◌, ◌++◌, refl, ap}
use Rattle.std.specs.List.{flat_map, zip}
use Rattle.dns_model.specs.declared.trail.AskRef.{AskRef}
use Rattle.dns_model.specs.Chains.{Judge}
use Rattle.dns_model.specs.Records.{Rr, RrSet, Question}
use Rattle.dns_model.specs.Trails.{AskedValue}
use Rattle.dns_model.specs.SoundAnswers.{PlacedSet}
use Rattle.dns_rules.specs.Marks.{is_skipped}
use Rattle.dns_questions.specs.Questions.{asking, of_asking, of_signatures, of_sets}

zip_none : {X Y : Type 0} (xs : List X) (ys : List Y) → ys ≡ [] → zip xs ys ≡ []
zip_none [] ys h = refl
zip_none (x ∷ xs) ys h = ap (zip (x ∷ xs)) h

-- no signature asks nothing
pub signatureless : (j : Judge) (trail : List AskedValue) (q : Question) (set : RrSet) (asks : List AskRef)
    → of_signatures j trail q set [] asks ≡ []
unfolding of_signatures
signatureless j trail q set asks = refl

-- without an ask nothing is asked
pub unasked : (j : Judge) (trail : List AskedValue) (q : Question) (set : RrSet) (rs : List Rr)
    → of_signatures j trail q set rs [] ≡ []
unfolding of_signatures
unasked j trail q set rs = ap (flat_map (of_asking j trail set)) (zip_none {Y = AskRef} (asking q set rs) [] refl)

-- a signature that doesn't ask takes no ask
pub skipped_first : (j : Judge) (trail : List AskedValue) (q : Question) (set : RrSet) (r : Rr) (rs : List Rr) (asks : List AskRef)
    → is_skipped q set r ≡ true → of_signatures j trail q set (r ∷ rs) asks ≡ of_signatures j trail q set rs asks
unfolding of_signatures
skipped_first j trail q set r rs asks h = rw h refl

-- one that asks takes the first
pub asking_first : (j : Judge) (trail : List AskedValue) (q : Question) (set : RrSet) (r : Rr) (rs : List Rr) (ask : AskRef)
    (asks : List AskRef)
    → is_skipped q set r ≡ false
    → of_signatures j trail q set (r ∷ rs) (ask ∷ asks) ≡ of_asking j trail set (r, ask) ++ of_signatures j trail q set rs asks
unfolding of_signatures
asking_first j trail q set r rs ask asks h = rw h refl

-- without entries nothing is asked
pub entryless : (j : Judge) (trail : List AskedValue) (q : Question) (placed : List PlacedSet)
    → of_sets j trail q placed [] ≡ []
entryless j trail q [] = refl
entryless j trail q (p ∷ ps) = refl
