-- Replies that are served by turn come in their order.
use Rattle.std.proofs.Common.{◌≡◌, Bool, true, false, List, [], ◌∷◌, ◌++◌, map, refl, sym, ap, subst, ◌∙◌, inl, inr, append_assoc}
use Rattle.std.specs.List.{list_any}
use Rattle.std.proofs.lemmas.Bool.{cases_Bool, or_parts}
use Rattle.dns_handle.specs.Errors.{Reply}
use Rattle.dns_handle.specs.Handles.{Replies, reply_to, after_turn}
use Rattle.dns_model.specs.Records.{Question, question_eq}
use Rattle.dns_model.proofs.QuestionLemmas.{question_back, question_refl}
use Rattle.dns_saved_lookup.specs.InTurn.{ServesInTurn, SavedServes}
use Rattle.dns_saved_session.specs.Saved.{SavedValue}
use Rattle.dns_saved_session.specs.SavedText.{session_saved}
use Rattle.dns_session_lookup.specs.Replies.{recorded}

abbrev Told : Type 0
Told = Question × Reply

abbrev in_turn : List Told → Replies
in_turn list = record { list = list; by_turn = true }

-- one of these has the question
abbrev is_asked : Question → List Told → Bool
is_asked q rest = list_any (λ later. question_eq later.0 q) rest

-- none of these has a question of those that are left
abbrev Apart : List Told → List Told → Type 0
Apart [] rest = Unit {0}
Apart (told ∷ spent) rest = (is_asked told.0 rest ≡ false) × Apart spent rest

true_false : true ≡ false → ⊥
true_false h = cc

apart_back : (a b : Question) → question_eq b a ≡ false → question_eq a b ≡ false
apart_back a b h =
    elim (cases_Bool (question_eq a b)) [
      | inl is ↦ absurd (true_false (sym (question_back a b is) ∙ h))
      | inr isnt ↦ isnt
    ]

-- a spent reply isn't that to the next question
other : (spent told : Told) (rest : List Told) → is_asked spent.0 (told ∷ rest) ≡ false → question_eq spent.0 told.0 ≡ false
other spent told rest h = apart_back spent.0 told.0 (or_parts (question_eq told.0 spent.0) (is_asked spent.0 rest) h).0

asked : (spent : List Told) (told : Told) (rest : List Told) → Apart spent (told ∷ rest)
    → reply_to (spent ++ told ∷ rest) told.0 ≡ told.1
unfolding reply_to
asked [] told rest h = rw (question_refl told.0) refl
asked (s ∷ spent) told rest h = rw (other s told rest h.0) (asked spent told rest h.1)

-- what a turn leaves behind the spent ones
left : (spent : List Told) (told : Told) (rest : List Told) → Apart spent (told ∷ rest)
    → after_turn (spent ++ told ∷ rest) told.0 ≡ spent ++ after_turn (told ∷ rest) told.0
unfolding after_turn
left [] told rest h = refl
left (s ∷ spent) told rest h = rw (other s told rest h.0) (ap (λ l. s ∷ l) (left spent told rest h.1))

goes : (told : Told) (rest : List Told) → is_asked told.0 rest ≡ true → after_turn (told ∷ rest) told.0 ≡ rest
unfolding after_turn
goes told rest h = rw (question_refl told.0, h) refl

stays : (told : Told) (rest : List Told) → is_asked told.0 rest ≡ false → after_turn (told ∷ rest) told.0 ≡ told ∷ rest
unfolding after_turn
stays told rest h = rw (question_refl told.0, h) refl

apart_rest : (spent : List Told) (told : Told) (rest : List Told) → Apart spent (told ∷ rest) → Apart spent rest
apart_rest [] told rest h = tt
apart_rest (s ∷ spent) told rest h =
    ((or_parts (question_eq told.0 s.0) (is_asked s.0 rest) h.0).1, apart_rest spent told rest h.1)

apart_more : (spent : List Told) (told : Told) (rest : List Told) → Apart spent rest → is_asked told.0 rest ≡ false
    → Apart (spent ++ told ∷ []) rest
apart_more [] told rest h next = (next, tt)
apart_more (s ∷ spent) told rest h next = (h.0, apart_more spent told rest h.1 next)

serves : (spent rest : List Told) → Apart spent rest → ServesInTurn (in_turn (spent ++ rest)) rest
serves spent [] h = tt
serves spent (told ∷ rest) h =
    elim (cases_Bool (is_asked told.0 rest)) [
      | inl is ↦
          let same : after_turn (spent ++ told ∷ rest) told.0 ≡ spent ++ rest =
          left spent told rest h ∙ ap (λ l. spent ++ l) (goes told rest is) in (
            asked spent told rest h,
            subst (λ l. ServesInTurn (in_turn l) rest) (sym same) (serves spent rest (apart_rest spent told rest h)),
          )
      | inr isnt ↦
          let same : after_turn (spent ++ told ∷ rest) told.0 ≡ (spent ++ told ∷ []) ++ rest =
          left spent told rest h ∙ ap (λ l. spent ++ l) (stays told rest isnt) ∙ sym (append_assoc spent (told ∷ []) rest) in (
            asked spent told rest h,
            subst (λ l. ServesInTurn (in_turn l) rest) (sym same)
                (serves (spent ++ told ∷ []) rest (apart_more spent told rest (apart_rest spent told rest h) isnt)),
          )
    ]

pub saved_serves : (s : SavedValue) → SavedServes s
saved_serves s = serves [] (map recorded (session_saved s).replies) tt
