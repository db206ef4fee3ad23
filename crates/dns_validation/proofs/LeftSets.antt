-- What a step leaves to be kept is what was found of its sets, one entry for each of which anything was found, in order.
use Rattle.std.proofs.Common.{◌≡◌, List, [], ◌∷◌, ◌++◌, map}
use Rattle.std.specs.List.{filter, zip}
use Rattle.dns_model.specs.Records.{Question}
use Rattle.dns_model.specs.SoundAnswers.{PlacedSet, told_by}
use Rattle.dns_model.specs.Trails.{AskedValue, JudgedSetValue}
use Rattle.dns_rules.specs.Asking.{judged_part}
use Rattle.dns_rules.specs.CacheEntries.{EntryValue}
use Rattle.dns_rules.specs.Outcome.{Outcome}
use Rattle.dns_rules.proofs.StayLemmas.{later_step_context}
use Rattle.dns_flow.specs.Phases.{StepEnds, turn}
use Rattle.dns_validation.specs.KeptSets.{AreOfSets, FoundSet, found_set}
use Rattle.dns_validation.specs.LastKept.{IsOfSet, is_found}
use Rattle.dns_validation.specs.Machine.{Terms, OpenValue, entries_left}
use Rattle.dns_validation.proofs.CausedSets.{caused_later}
use Rattle.dns_validation.proofs.GotLemmas.{context_at}
use Rattle.dns_validation.proofs.Judgings.{Judging, step_judging}
use Rattle.dns_validation.proofs.LastLemmas.{all_left}

-- an entry for each
abbrev AllOf : Terms → Question → List (PlacedSet × JudgedSetValue) → List EntryValue → Type 0
AllOf t q [] [] = Unit {0}
AllOf t q [] (e ∷ left) = ⊥
AllOf t q (p ∷ found) [] = ⊥
AllOf t q (p ∷ found) (e ∷ left) = IsOfSet t q p.0 p.1 e × AllOf t q found left

of_pairs : (t : Terms) (q : Question) (found : List (PlacedSet × JudgedSetValue)) (left : List EntryValue)
    → AllOf t q found left → AreOfSets t (map (found_set q) found) left
of_pairs t q [] [] h = tt
of_pairs t q [] (e ∷ left) h = h
of_pairs t q (p ∷ found) [] h = h
of_pairs t q (p ∷ found) (e ∷ left) h = (h.0, of_pairs t q found left h.1)

-- a step that ends leaves these, by the trail with whatever step comes behind
module _ (t : Terms) (cached : List EntryValue) where
  pub step_leaves : (closed more : List AskedValue) (f : OpenValue) (o : Outcome) → Judging t cached closed f
      → turn f.phase ≡ StepEnds o
      → AreOfSets t
      (map (found_set f.so_far.query)
      (filter (λ (x : PlacedSet × JudgedSetValue). is_found (closed ++ more) x.1)
      (zip (judged_part f.so_far.depth (told_by f.so_far.message)) f.so_far.entries)))
      (entries_left t f.so_far)
  step_leaves closed more f o judging ends =
      let s = f.so_far in
      let told = told_by s.message in
      let part = judged_part s.depth told in
      let done = step_judging t cached closed f o judging ends in
      let g = context_at t cached closed s in
      of_pairs t s.query
      (filter (λ (x : PlacedSet × JudgedSetValue). is_found (closed ++ more) x.1) (zip part s.entries))
      (entries_left t s)
      (all_left t s.query (λ found left. AllOf t s.query found left) tt (λ p e entry found left of rest. (of, rest))
      (later_step_context g more) told part s.entries s.sets s.causes done.judged.same
      done.judged.stand (caused_later g more told part s.entries s.causes done.caused))

-- ---- lists of them

pub of_append : (t : Terms) (xs ys : List FoundSet) (es fs : List EntryValue) → AreOfSets t xs es → AreOfSets t ys fs
    → AreOfSets t (xs ++ ys) (es ++ fs)
of_append t [] ys [] fs h k = k
of_append t [] ys (e ∷ es) fs h k = absurd h
of_append t (x ∷ xs) ys [] fs h k = absurd h
of_append t (x ∷ xs) ys (e ∷ es) fs h k = (h.0, of_append t xs ys es fs h.1 k)
