-- Several readers of one list: each reads its items in their order, from the first one on.
use Rattle.std.specs.Prelude.{ℕ, ◌≡◌, ◌+◌, ⊤, List, Option, None, Some, length, take, slice_get}
use Rattle.std.specs.Borrow.{Fml, RattleType, MutBor, follows_so}
use mathlib.Core.Option as maybe
use Rattle.dns_client.specs.declared.rc_stream.RcStream.{RcStream}
use Rattle.dns_client.specs.contracts.rc_stream.RcStream.{the_row}

-- the list
abbrev pub items_of : {T : Type 0} → RcStream T → List T
items_of reader = reader.items.value.items

-- how many of its items a reader has read
abbrev pub place_of : {T : Type 0} → RcStream T → ℕ
place_of reader = reader.place

-- what it has read
abbrev pub read_of : {T : Type 0} → RcStream T → List T
read_of reader = take (place_of reader) (items_of reader)

-- what it reads next, if something is left
abbrev pub next_of : {T : Type 0} → RcStream T → Option T
next_of reader = slice_get (items_of reader) (place_of reader)

-- how many it has read, once it has read this, or the end
abbrev pub place_behind : {T : Type 0} → Option T → ℕ → ℕ
place_behind None place = place
place_behind (Some item) place = place + 1

-- it has read the next item of the same list, if there was one
pub record HasMoved {T : Type 0} (old new : RcStream T) : Type 0 where
  pub same : items_of new ≡ items_of old
  pub moved : place_of new ≡ place_behind (next_of old) (place_of old)

-- such a reader is left where the item that was given is let go
abbrev pub MovesOn : (T : RattleType) → MutBor (RcStream T.Denot) → Fml
MovesOn T reader = follows_so (the_row T) (the_row T) reader.ghost_name maybe.none (λ _ _. ⊤) (λ left. HasMoved reader.now left)

-- items begin a list
abbrev pub Begins : {T : Type 0} → List T → List T → Type 0
Begins front items = take (length front) items ≡ front
