-- The replies to a question, found by their places.
use Rattle.std.proofs.Common.{◌≡◌, ℕ, ◌+◌, Bool, true, false, cond, List, [], ◌∷◌, ◌++◌, length, drop, None, Some, Err, refl, sym, ap, ◌∙◌, arith, zero-add, add-zero}
use Rattle.std.specs.Prelude.{slice_get, slice_set, ◌||◌}
use Rattle.std.specs.List.{list_any}
use Rattle.std.specs.Ordering.{is_eq}
use Rattle.std.specs.declared.cmp.Ordering.TheVariants.{Equal}
use Rattle.std.specs.Map.{lookup}
use Rattle.std.specs.BTreeMap.{BTreeMap}
use Rattle.std.specs.declared.collections.VecDeque.{VecDeque}
use Rattle.std.proofs.lemmas.Bool.{or_parts}
use Rattle.std.proofs.lemmas.List.{append-nil}
use Rattle.std.proofs.lemmas.List.Elements.{filter_map-append}
use Rattle.std.proofs.Math.Seq.{set-append_seam}
use Rattle.dns_model.specs.Records.{Question, question_eq}
use Rattle.dns_model.proofs.TestLemmas.{tied_equal}
use Rattle.dns_model.proofs.Lists.{slice_get_appended}
use Rattle.dns_model.proofs.QuestionLemmas.{question_right}
use Rattle.dns_handle.specs.declared.query_key.QueryKey.{QueryKey}
use Rattle.dns_handle.specs.Errors as seen
use Rattle.dns_handle.specs.Errors.{Reply}
use Rattle.dns_handle.specs.Handles.{reply_to, after_turn}
use Rattle.dns_recorded.specs.RecordedPlaces.{Slot, left, reply_at, reply_in, is_for, places_from, queue_items, NotedPlace, Dropped, IndexesReplies}
use Rattle.dns_handle.specs.QueryKeys.{key_of, key_cmp}
use Rattle.dns_handle.proofs.KeyLemmas.{key_total, key_ties}

-- ---- questions that are equal

keys_tie : (a b : Question) → question_eq a b ≡ true → key_cmp (key_of a) (key_of b) ≡ Equal
keys_tie a b same = tied_equal (key_cmp (key_of a) (key_of b)) (sym (key_ties a b) ∙ same)

-- equal questions are equal to the same questions
question_left : (a b q : Question) → question_eq a b ≡ true → question_eq a q ≡ question_eq b q
question_left a b q same =
    key_ties a q ∙ ap is_eq (key_total.congr (key_of a) (key_of b) (key_of q) (keys_tie a b same)) ∙ sym (key_ties b q)

-- ---- places

places_from-append : (q : Question) (n : ℕ) (xs ys : List Slot) → places_from q n (xs ++ ys) ≡ places_from q n xs
    ++ places_from q (n + length xs) ys
unfolding places_from
places_from-append q n [] ys = rw add-zero refl
places_from-append q n (x ∷ xs) ys =
    let e : n + length (x ∷ xs) ≡ (n + 1) + length xs = omega arith in
    let ih : places_from q (n + 1) (xs ++ ys) ≡ places_from q (n + 1) xs ++ places_from q (n + length (x ∷ xs)) ys =
    places_from-append q (n + 1) xs ys ∙ ap (λ m. places_from q (n + 1) xs ++ places_from q m ys) (sym e) in
    elim (is_for q x) as (λ b. cond b (n ∷ places_from q (n + 1) (xs ++ ys)) (places_from q (n + 1) (xs ++ ys))
    ≡ cond b (n ∷ places_from q (n + 1) xs) (places_from q (n + 1) xs) ++ places_from q (n + length (x ∷ xs)) ys) [
      | true ↦ ap (λ ps. n ∷ ps) ih
      | false ↦ ih
    ]

-- equal questions have the same places
places_alike : (q r : Question) → question_eq q r ≡ true → (n : ℕ) (xs : List Slot) → places_from q n xs ≡ places_from r n xs
unfolding places_from
places_alike q r same n [] = refl
places_alike q r same n (None ∷ xs) = places_alike q r same (n + 1) xs
places_alike q r same n (Some told ∷ xs) = rw (question_right q r told.0 same, places_alike q r same (n + 1) xs) refl

-- there is a reply to a question
abbrev pub is_answered : List (Question × Reply) → Question → Bool
is_answered told q = list_any (λ t. question_eq t.0 q) told

-- a question has a reply where it has a place
abbrev is_some_place : List ℕ → Bool
is_some_place [] = false
is_some_place (place ∷ places) = true

answered-places : (q : Question) (n : ℕ) (xs : List Slot) → is_answered (left xs) q ≡ is_some_place (places_from q n xs)
unfolding places_from
answered-places q n [] = refl
answered-places q n (None ∷ xs) = answered-places q (n + 1) xs
answered-places q n (Some told ∷ xs) =
    elim (question_eq told.0 q) as (λ b. (b || is_answered (left xs) q)
    ≡ is_some_place (cond b (n ∷ places_from q (n + 1) xs) (places_from q (n + 1) xs))) [
      | true ↦ refl
      | false ↦ answered-places q (n + 1) xs
    ]

-- ---- the first reply to a question

-- the first of some places, with what stands before it and behind it
pub record First (q : Question) (n : ℕ) (slots : List Slot) (place : ℕ) (rest : List ℕ) : Type 0 where
  pub pre : List Slot
  pub told : Question × Reply
  pub post : List Slot
  pub whole : slots ≡ pre ++ Some told ∷ post
  pub here : n + length pre ≡ place
  pub asked : question_eq told.0 q ≡ true
  pub before : places_from q n pre ≡ []
  pub behind : places_from q (place + 1) post ≡ rest
  pub found : places_from q n slots ≡ place ∷ rest

further : (q : Question) (n : ℕ) (slot : Slot) (slots : List Slot) (place : ℕ) (rest : List ℕ) → is_for q slot ≡ false
    → First q (n + 1) slots place rest → First q n (slot ∷ slots) place rest
unfolding places_from
further q n slot slots place rest other f = record {
  pre = slot ∷ f.pre;
  told = f.told;
  post = f.post;
  whole = ap (λ l. slot ∷ l) f.whole;
  here = omega (arith, f.here);
  asked = f.asked;
  before = rw other f.before;
  behind = f.behind;
  found = rw other f.found;
}

here : (q : Question) (n : ℕ) (told : Question × Reply) (slots : List Slot) (place : ℕ) (rest : List ℕ) → question_eq told.0 q ≡ true
    → n ∷ places_from q (n + 1) slots ≡ place ∷ rest → First q n (Some told ∷ slots) place rest
unfolding places_from
here q n told slots place rest asked found =
    let same : n ≡ place = cc in
    let others : places_from q (n + 1) slots ≡ rest = cc in
    record {
      pre = [];
      told = told;
      post = slots;
      whole = refl;
      here = rw add-zero same;
      asked = asked;
      before = refl;
      behind = rw (← same) others;
      found = rw asked found;
    }

first_of : (q : Question) (n : ℕ) (told : Question × Reply) (slots : List Slot) (place : ℕ) (rest : List ℕ) (b : Bool)
    → question_eq told.0 q ≡ b
    → cond b (n ∷ places_from q (n + 1) slots) (places_from q (n + 1) slots) ≡ place ∷ rest
    → (places_from q (n + 1) slots ≡ place ∷ rest → First q (n + 1) slots place rest) → First q n (Some told ∷ slots) place rest
first_of q n told slots place rest true asked found later = here q n told slots place rest asked found
first_of q n told slots place rest false asked found later = further q n (Some told) slots place rest asked (later found)

pub first : (q : Question) (n : ℕ) (slots : List Slot) (place : ℕ) (rest : List ℕ) → places_from q n slots ≡ place ∷ rest
    → First q n slots place rest
unfolding places_from
first q n [] place rest found = absurd cc
first q n (None ∷ slots) place rest found = further q n None slots place rest refl (first q (n + 1) slots place rest found)
first q n (Some told ∷ slots) place rest found =
    first_of q n told slots place rest (question_eq told.0 q) refl found (λ h. first q (n + 1) slots place rest h)

-- where the replies before aren't to the question, they play no part
reply_to-append : (q : Question) (xs ys : List (Question × Reply)) → is_answered xs q ≡ false → reply_to (xs ++ ys) q ≡ reply_to ys q
unfolding reply_to
reply_to-append q [] ys none = refl
reply_to-append q (x ∷ xs) ys none =
    let parts = or_parts (question_eq x.0 q) (is_answered xs q) none in
    rw parts.0 (reply_to-append q xs ys parts.1)

after_turn-append : (q : Question) (xs ys : List (Question × Reply)) → is_answered xs q ≡ false
    → after_turn (xs ++ ys) q ≡ xs ++ after_turn ys q
unfolding after_turn
after_turn-append q [] ys none = refl
after_turn-append q (x ∷ xs) ys none =
    let parts = or_parts (question_eq x.0 q) (is_answered xs q) none in
    rw parts.0 (ap (λ l. x ∷ l) (after_turn-append q xs ys parts.1))

-- a question without a place: Timeout, and all stay
pub record IsUnanswered (q : Question) (told : List (Question × Reply)) : Type 0 where
  pub reply : reply_to told q ≡ Err seen.Timeout
  pub kept : after_turn told q ≡ told

unanswered-list : (q : Question) (told : List (Question × Reply)) → is_answered told q ≡ false → IsUnanswered q told
unfolding reply_to after_turn
unanswered-list q told none = record {
  reply = ap (λ l. reply_to l q) (sym (append-nil told)) ∙ reply_to-append q told [] none;
  kept = ap (λ l. after_turn l q) (sym (append-nil told)) ∙ after_turn-append q told [] none ∙ append-nil told;
}

pub unanswered : (q : Question) (slots : List Slot) → places_from q 0 slots ≡ [] → IsUnanswered q (left slots)
unanswered q slots none = unanswered-list q (left slots) (answered-places q 0 slots ∙ ap is_some_place none)

-- ---- a reply's turn

left-behind : (pre : List Slot) (told : Question × Reply) (post : List Slot) → left (pre ++ Some told ∷ post) ≡ left pre ++ told ∷ left post
left-behind pre told post = filter_map-append (λ slot. slot) pre (Some told ∷ post)

left-gone : (pre post : List Slot) → left (pre ++ None ∷ post) ≡ left pre ++ left post
left-gone pre post = filter_map-append (λ slot. slot) pre (None ∷ post)

pub left-push : (slots : List Slot) (told : Question × Reply) → left (slots ++ Some told ∷ []) ≡ left slots ++ told ∷ []
left-push slots told = left-behind slots told []

-- the replies before the first are to other questions
others : (q : Question) (slots : List Slot) (place : ℕ) (rest : List ℕ) (f : First q 0 slots place rest)
    → is_answered (left f.pre) q ≡ false
others q slots place rest f = answered-places q 0 f.pre ∙ ap is_some_place f.before

-- the reply at the first place is the first reply
pub reply_at-first : (q : Question) (slots : List Slot) (place : ℕ) (rest : List ℕ) → First q 0 slots place rest
    → reply_to (left slots) q ≡ reply_at slots place
unfolding reply_to
reply_at-first q slots place rest f =
    let here : length f.pre ≡ place = omega (arith, f.here) in
    let stands : slice_get slots place ≡ Some (Some f.told) =
    rw (f.whole, ← here) (slice_get_appended f.pre (Some f.told) f.post) in
    let told : reply_to (f.told ∷ left f.post) q ≡ f.told.1 = rw f.asked refl in
    ap (λ l. reply_to (left l) q) f.whole ∙ ap (λ l. reply_to l q) (left-behind f.pre f.told f.post)
    ∙ reply_to-append q (left f.pre) (f.told ∷ left f.post) (others q slots place rest f) ∙ told ∙ ap reply_in (sym stands)

-- what a turn leaves
turned : (q : Question) (slots : List Slot) (place : ℕ) (rest : List ℕ) (f : First q 0 slots place rest)
    → after_turn (left slots) q ≡ left f.pre ++ cond (is_some_place rest) (left f.post) (f.told ∷ left f.post)
unfolding after_turn
turned q slots place rest f =
    let more : is_answered (left f.post) q ≡ is_some_place rest = answered-places q (place + 1) f.post ∙ ap is_some_place f.behind in
    let turn : after_turn (f.told ∷ left f.post) q ≡ cond (is_some_place rest) (left f.post) (f.told ∷ left f.post) =
    rw (f.asked, more) refl in
    ap (λ l. after_turn (left l) q) f.whole ∙ ap (λ l. after_turn l q) (left-behind f.pre f.told f.post)
    ∙ after_turn-append q (left f.pre) (f.told ∷ left f.post) (others q slots place rest f) ∙ ap (λ l. left f.pre ++ l) turn

-- the last reply stays
pub last_stays : (q : Question) (slots : List Slot) (place : ℕ) → First q 0 slots place [] → after_turn (left slots) q ≡ left slots
last_stays q slots place f = turned q slots place [] f ∙ sym (left-behind f.pre f.told f.post) ∙ ap left (sym f.whole)

-- the slots without what stands first
gone : (q : Question) (slots : List Slot) (place : ℕ) (rest : List ℕ) (f : First q 0 slots place rest)
    → slice_set slots place None ≡ f.pre ++ None ∷ f.post
gone q slots place rest f =
    let here : length f.pre ≡ place = omega (arith, f.here) in
    rw (f.whole, ← here) (set-append_seam f.pre (Some f.told) f.post None)

-- a reply with others behind it goes
pub first_goes : (q : Question) (slots : List Slot) (place next : ℕ) (rest : List ℕ) → First q 0 slots place (next ∷ rest)
    → left (slice_set slots place None) ≡ after_turn (left slots) q
first_goes q slots place next rest f =
    ap left (gone q slots place (next ∷ rest) f) ∙ left-gone f.pre f.post ∙ sym (turned q slots place (next ∷ rest) f)

-- ---- the map from keys to places

-- a reply more, and its place
pub index_more : {Z : Type 0} (old new : BTreeMap QueryKey (VecDeque ℕ Z)) (slots : List Slot) (k : Question) (key : QueryKey)
    (place : ℕ) (r : Reply)
    → IndexesReplies old slots → key ≡ key_of k → place ≡ length slots → NotedPlace old new key place
    → IndexesReplies new (slots ++ Some (k, r) ∷ [])
unfolding places_from
index_more old new slots k key place r before same end noted q =
    noted (key_of q) ∙ ap (λ ps. ps ++ cond (is_eq (key_cmp key (key_of q))) (place ∷ []) []) (before q)
    ∙ ap (λ x. places_from q 0 slots ++ cond (is_eq (key_cmp x (key_of q))) (place ∷ []) []) same
    ∙ ap (λ b. places_from q 0 slots ++ cond b (place ∷ []) []) (sym (key_ties k q))
    ∙ ap (λ n. places_from q 0 slots ++ cond (question_eq k q) (n ∷ []) []) (end ∙ sym (zero-add (length slots)))
    ∙ sym (places_from-append q 0 slots (Some (k, r) ∷ []))

-- the places with a slot in the midst
places_from-behind : (q : Question) (pre : List Slot) (slot : Slot) (post : List Slot)
    → places_from q 0 (pre ++ slot ∷ post) ≡ places_from q 0 pre
    ++ cond (is_for q slot) (length pre ∷ places_from q (length pre + 1) post) (places_from q (length pre + 1) post)
unfolding places_from
places_from-behind q pre slot post = places_from-append q 0 pre (slot ∷ post) ∙ rw zero-add refl

-- at a question that is equal the first place goes, and at others none
places_less : (q r : Question) (slots : List Slot) (place : ℕ) (rest : List ℕ) (f : First q 0 slots place rest) (b : Bool)
    → question_eq q r ≡ b
    → cond b (drop 1 (places_from r 0 slots)) (places_from r 0 slots) ≡ places_from r 0 (f.pre ++ None ∷ f.post)
places_less q r slots place rest f true same =
    let here : length f.pre ≡ place = omega (arith, f.here) in
    let without : places_from q 0 (f.pre ++ None ∷ f.post) ≡ rest =
    places_from-behind q f.pre None f.post ∙ ap (λ ps. ps ++ places_from q (length f.pre + 1) f.post) f.before
    ∙ ap (λ n. places_from q (n + 1) f.post) here ∙ f.behind in
    ap (drop 1) (sym (places_alike q r same 0 slots) ∙ f.found) ∙ sym without ∙ places_alike q r same 0 (f.pre ++ None ∷ f.post)
places_less q r slots place rest f false apart =
    let other : question_eq f.told.0 r ≡ false = question_left f.told.0 q r f.asked ∙ apart in
    ap (places_from r 0) f.whole ∙ places_from-behind r f.pre (Some f.told) f.post
    ∙ ap (λ b. places_from r 0 f.pre
    ++ cond b (length f.pre ∷ places_from r (length f.pre + 1) f.post) (places_from r (length f.pre + 1) f.post)) other
    ∙ sym (places_from-behind r f.pre None f.post)

-- a reply less, and its place
pub index_less : {Z : Type 0} (old new : BTreeMap QueryKey (VecDeque ℕ Z)) (slots : List Slot) (q : Question) (key : QueryKey)
    (place : ℕ) (rest : List ℕ)
    → IndexesReplies old slots → key ≡ key_of q → First q 0 slots place rest → Dropped old new key
    → IndexesReplies new (slice_set slots place None)
index_less old new slots q key place rest before same f dropped r =
    dropped (key_of r) ∙ ap (λ ps. cond (is_eq (key_cmp key (key_of r))) (drop 1 ps) ps) (before r)
    ∙ ap (λ x. cond (is_eq (key_cmp x (key_of r))) (drop 1 (places_from r 0 slots)) (places_from r 0 slots)) same
    ∙ ap (λ b. cond b (drop 1 (places_from r 0 slots)) (places_from r 0 slots)) (sym (key_ties q r))
    ∙ places_less q r slots place rest f (question_eq q r) refl
    ∙ ap (places_from r 0) (sym (gone q slots place rest f))

-- a map without keys has the places of no replies
pub index_none : {Z : Type 0} (places : BTreeMap QueryKey (VecDeque ℕ Z)) (slots : List Slot) → places.entries ≡ []
    → slots ≡ [] → IndexesReplies places slots
unfolding places_from
index_none places slots empty none q = rw none (ap (λ es. queue_items (lookup (λ k. is_eq (key_cmp (key_of q) k)) es)) empty)
