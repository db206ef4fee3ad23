-- For private functions of this crate and the invariant of `ReplyList` only: the places at which recorded replies are found.
use Rattle.std.specs.Prelude.{ℕ, ◌+◌, ◌≡◌, Bool, true, false, not, List, [], ◌∷◌, ◌++◌, drop, Option, None, Some, Err, slice_get, if◌then◌else◌}
use Rattle.std.specs.List.{filter_map}
use Rattle.std.specs.Ordering.{is_eq}
use Rattle.std.specs.BTreeMap as tree
use Rattle.std.specs.BTreeMap.{BTreeMap}
use Rattle.std.specs.declared.collections.VecDeque.{VecDeque}
use Rattle.dns_model.specs.Records.{Question, question_eq}
use Rattle.dns_handle.specs.declared.query_key.QueryKey.{QueryKey}
use Rattle.dns_handle.specs.QueryKeys.{key_of, key_cmp}
use Rattle.dns_recorded.specs.declared.reply_places.Turn.{Turn}
use Rattle.dns_handle.specs.Errors as seen
use Rattle.dns_handle.specs.Errors.{Reply}
use Rattle.dns_handle.specs.Handles.{Replies}

-- replies that are left, served by turn or not
abbrev pub replies_by : Bool → List (Question × Reply) → Replies
replies_by by_turn list = record { list = list; by_turn = by_turn }

-- what stands at a place: a recording, or nothing once its turn is over
abbrev pub Slot : Type 0
Slot = Option (Question × Reply)

-- the recordings that are left, in order
abbrev pub left : List Slot → List (Question × Reply)
left slots = filter_map (λ slot. slot) slots

-- the reply of what stands at a place; nothing is Timeout
abbrev pub reply_in : Option Slot → Reply
reply_in None = Err seen.Timeout
reply_in (Some None) = Err seen.Timeout
reply_in (Some (Some told)) = told.1

abbrev pub reply_at : List Slot → ℕ → Reply
reply_at slots place = reply_in (slice_get slots place)

-- a recording is left and has that question
abbrev pub is_for : Question → Slot → Bool
is_for q None = false
is_for q (Some told) = question_eq told.0 q

-- the places of the recordings that are left to a question, counted from a number on
unfoldable pub places_from : Question → ℕ → List Slot → List ℕ
places_from q n [] = []
places_from q n (slot ∷ slots) = if is_for q slot then n ∷ places_from q (n + 1) slots else places_from q (n + 1) slots

-- which of these places is served next, and whether it stays; by turn it does only where it is the last one
abbrev pub turn_in : Bool → List ℕ → Option Turn
turn_in by_turn [] = None
turn_in by_turn (place ∷ []) = Some (record { place = place; stays = true })
turn_in by_turn (place ∷ next ∷ rest) = Some (record { place = place; stays = not by_turn })

-- the places under a key
abbrev pub queue_items : {Z : Type 0} → Option (VecDeque ℕ Z) → List ℕ
queue_items None = []
queue_items (Some queue) = queue.items

abbrev pub query_places : {Z : Type 0} → BTreeMap QueryKey (VecDeque ℕ Z) → QueryKey → List ℕ
query_places places key = queue_items (tree.get key_cmp places key)

-- each key has the same places
abbrev pub SamePlaces : {Z : Type 0} → BTreeMap QueryKey (VecDeque ℕ Z) → BTreeMap QueryKey (VecDeque ℕ Z) → Type 0
SamePlaces old new = (k : QueryKey) → query_places new k ≡ query_places old k

-- a key has one more place behind its others
abbrev pub NotedPlace : {Z : Type 0} → BTreeMap QueryKey (VecDeque ℕ Z) → BTreeMap QueryKey (VecDeque ℕ Z) → QueryKey → ℕ → Type 0
NotedPlace old new key place =
    (k : QueryKey) → query_places new k ≡ query_places old k ++ (if is_eq (key_cmp key k) then place ∷ [] else [])

-- a key has lost its first place
abbrev pub Dropped : {Z : Type 0} → BTreeMap QueryKey (VecDeque ℕ Z) → BTreeMap QueryKey (VecDeque ℕ Z) → QueryKey → Type 0
Dropped old new key =
    (k : QueryKey) → query_places new k ≡ (if is_eq (key_cmp key k) then drop 1 (query_places old k) else query_places old k)

-- the map has the places of what is left to each question
abbrev pub IndexesReplies : {Z : Type 0} → BTreeMap QueryKey (VecDeque ℕ Z) → List Slot → Type 0
IndexesReplies places slots = (q : Question) → query_places places (key_of q) ≡ places_from q 0 slots
