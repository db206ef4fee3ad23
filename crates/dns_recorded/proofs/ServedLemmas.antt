-- What a send is served from the replies at their places, and what it leaves.
use Rattle.std.proofs.Common.{◌≡◌, ◌<◌, ◌⊎◌, inl, inr, ℕ, Bool, true, false, cond, List, [], ◌∷◌, length, Option, None, Some, Err, refl, sym, ap, ◌∙◌, arith, length-append}
use Rattle.std.specs.Prelude.{slice_set}
use Rattle.std.specs.BTreeMap.{BTreeMap}
use Rattle.std.specs.declared.collections.VecDeque.{VecDeque}
use Rattle.dns_model.specs.Records.{Question}
use Rattle.dns_handle.specs.declared.query_key.QueryKey.{QueryKey}
use Rattle.dns_recorded.specs.declared.reply_places.Turn.{Turn}
use Rattle.dns_handle.specs.Errors as seen
use Rattle.dns_handle.specs.Errors.{Reply}
use Rattle.dns_handle.specs.Handles.{Replies, after_turn}
use Rattle.dns_recorded.specs.Recording.{IsServed}
use Rattle.dns_recorded.specs.RecordedPlaces.{Slot, replies_by, left, reply_at, places_from, turn_in, query_places, IndexesReplies}
use Rattle.dns_handle.specs.QueryKeys.{key_of}
use Rattle.dns_recorded.proofs.ReplyLemmas.{First, first, unanswered, reply_at-first, last_stays, first_goes}

-- the replies of slots, served by turn or not
abbrev pub told_by : List Slot → Bool → Replies
told_by slots by_turn = replies_by by_turn (left slots)

all_stay : (q : Question) (told : List (Question × Reply)) (by_turn : Bool) → after_turn told q ≡ told
    → cond by_turn (after_turn told q) told ≡ told
all_stay q told true same = same
all_stay q told false same = refl

-- the next reply stays
pub record Staying (q : Question) (slots : List Slot) (by_turn : Bool) (place : ℕ) : Type 0 where
  pub rest : List ℕ
  pub first : First q 0 slots place rest
  pub kept : cond by_turn (after_turn (left slots) q) (left slots) ≡ left slots

-- the next reply goes, since another one stands behind it
pub record Going (q : Question) (slots : List Slot) (by_turn : Bool) (place : ℕ) : Type 0 where
  pub next : ℕ
  pub rest : List ℕ
  pub first : First q 0 slots place (next ∷ rest)
  pub turn : by_turn ≡ true

staying_by : (q : Question) (slots : List Slot) (by_turn : Bool) (turn : Turn) (ps : List ℕ) → places_from q 0 slots ≡ ps
    → Some turn ≡ turn_in by_turn ps
    → turn.stays ≡ true → Staying q slots by_turn turn.place
staying_by q slots by_turn turn [] found next stays = absurd cc
staying_by q slots by_turn turn (place ∷ []) found next stays =
    let here : place ≡ turn.place = cc in
    let f = first q 0 slots turn.place [] (found ∙ ap (λ p. p ∷ []) here) in
    record { rest = []; first = f; kept = all_stay q (left slots) by_turn (last_stays q slots turn.place f) }
staying_by q slots true turn (place ∷ other ∷ rest) found next stays = absurd cc
staying_by q slots false turn (place ∷ other ∷ rest) found next stays =
    let here : place ≡ turn.place = cc in
    record { rest = other ∷ rest; first = first q 0 slots turn.place (other ∷ rest) (found ∙ ap (λ p. p ∷ other ∷ rest) here); kept = refl }

going_by : (q : Question) (slots : List Slot) (by_turn : Bool) (turn : Turn) (ps : List ℕ) → places_from q 0 slots ≡ ps
    → Some turn ≡ turn_in by_turn ps
    → turn.stays ≡ false → Going q slots by_turn turn.place
going_by q slots by_turn turn [] found next stays = absurd cc
going_by q slots by_turn turn (place ∷ []) found next stays = absurd cc
going_by q slots false turn (place ∷ other ∷ rest) found next stays = absurd cc
going_by q slots true turn (place ∷ other ∷ rest) found next stays =
    let here : place ≡ turn.place = cc in
    record {
      next = other;
      rest = rest;
      first = first q 0 slots turn.place (other ∷ rest) (found ∙ ap (λ p. p ∷ other ∷ rest) here);
      turn = refl;
    }

-- the next reply to a question, as the map has it
pub next : {Z : Type 0} (places : BTreeMap QueryKey (VecDeque ℕ Z)) (slots : List Slot) (q : Question) (key : QueryKey)
    (by_turn : Bool) (turn : Option Turn)
    → IndexesReplies places slots → key ≡ key_of q → turn ≡ turn_in by_turn (query_places places key)
    → turn ≡ turn_in by_turn (places_from q 0 slots)
next places slots q key by_turn turn index same found =
    found ∙ ap (λ k. turn_in by_turn (query_places places k)) same ∙ ap (turn_in by_turn) (index q)

none_next : (by_turn : Bool) (ps : List ℕ) → None ≡ turn_in by_turn ps → ps ≡ []
none_next by_turn [] h = refl
none_next by_turn (place ∷ []) h = absurd cc
none_next by_turn (place ∷ other ∷ rest) h = absurd cc

-- a question without a reply
pub serves_none : (q : Question) (slots : List Slot) (by_turn : Bool) → None ≡ turn_in by_turn (places_from q 0 slots)
    → IsServed (told_by slots by_turn) (Some q) (told_by slots by_turn) (Err seen.Timeout)
serves_none q slots by_turn found =
    let un = unanswered q slots (none_next by_turn (places_from q 0 slots) found) in
    inl (sym un.reply, ap (replies_by by_turn) (sym (all_stay q (left slots) by_turn un.kept)))

-- a reply that stays
pub serves_copy : (q : Question) (slots : List Slot) (by_turn : Bool) (turn : Turn) (reply : Reply)
    → Some turn ≡ turn_in by_turn (places_from q 0 slots)
    → turn.stays ≡ true → (reply ≡ Err seen.NoMemory) ⊎ (reply ≡ reply_at slots turn.place)
    → IsServed (told_by slots by_turn) (Some q) (told_by slots by_turn) reply
serves_copy q slots by_turn turn reply found stays copied =
    let s = staying_by q slots by_turn turn (places_from q 0 slots) refl found stays in
    elim copied as (λ _. IsServed (told_by slots by_turn) (Some q) (told_by slots by_turn) reply) [
      | inl none ↦ inr (none, refl)
      | inr same ↦ inl (same ∙ sym (reply_at-first q slots turn.place s.rest s.first), ap (replies_by by_turn) (sym s.kept))
    ]

-- a reply that goes
pub going : (q : Question) (slots : List Slot) (by_turn : Bool) (turn : Turn) → Some turn ≡ turn_in by_turn (places_from q 0 slots)
    → turn.stays ≡ false → Going q slots by_turn turn.place
going q slots by_turn turn found stays = going_by q slots by_turn turn (places_from q 0 slots) refl found stays

pub serves_turn : (q : Question) (slots : List Slot) (by_turn : Bool) (place : ℕ) (reply : Reply) → Going q slots by_turn place
    → reply ≡ reply_at slots place
    → IsServed (told_by slots by_turn) (Some q) (told_by (slice_set slots place None) by_turn) reply
serves_turn q slots by_turn place reply g same =
    let goes : left (slice_set slots place None) ≡ cond by_turn (after_turn (left slots) q) (left slots) =
    rw g.turn (first_goes q slots place g.next g.rest g.first) in
    inl (same ∙ sym (reply_at-first q slots place (g.next ∷ g.rest) g.first), ap (replies_by by_turn) goes)

-- the place of a reply that goes is within the list
pub going_within : (q : Question) (slots : List Slot) (by_turn : Bool) (place : ℕ) → Going q slots by_turn place → place < length slots
going_within q slots by_turn place g =
    omega (arith, g.first.here, ap length g.first.whole, length-append g.first.pre (Some g.first.told ∷ g.first.post))
