-- A link in memory: what it gives comes in pieces, and what it takes has so much room.
use Rattle.std.specs.Prelude.{ℕ, ◌-◌, ◌==◌, List, [], ◌∷◌, ◌++◌, drop, length, map, take, if◌then◌else◌, Option, Some}
use Rattle.std.specs.List.{concat}
use Rattle.dns_link.specs.Calls.{NetCalls, no_calls}
use Rattle.dns_link.specs.Counts.{CountsValue, no_counts}
use Rattle.dns_link.specs.Plans.{PlanValue, planned}

pub record PiecesValue : Type 0 where
  -- the bytes that were read, and those that are left
  pub given : List ℕ
  pub left : List ℕ
  -- how many are left of the piece that is read now, and of each later one
  pub piece : ℕ
  pub later : List ℕ

abbrev pub first_or_none : List ℕ → ℕ
first_or_none [] = 0
first_or_none (n ∷ ns) = n

-- no byte of these pieces was read
abbrev pub new_pieces : List (List ℕ) → PiecesValue
new_pieces pieces = record {
  given = [];
  left = concat pieces;
  piece = first_or_none (map length pieces);
  later = drop 1 (map length pieces);
}

-- once a piece is read, it is the next one's turn
abbrev pub turned : PiecesValue → PiecesValue
turned pieces =
    if pieces.piece == 0 then record pieces { piece = first_or_none pieces.later; later = drop 1 pieces.later } else pieces

-- so many bytes of the piece were read
abbrev pub read_of_piece : ℕ → PiecesValue → PiecesValue
read_of_piece n pieces = turned (record pieces {
  given = pieces.given ++ take n pieces.left;
  left = drop n pieces.left;
  piece = pieces.piece - n;
})

pub record PairLinkValue : Type 0 where
  pub pieces : PiecesValue
  -- the bytes that were written, and for how many there is room in all
  pub taken : List ℕ
  pub room : ℕ
  -- the calls that fail
  pub plan : PlanValue
  pub counts : CountsValue
  -- the kind of the last fault
  pub calls : Option NetCalls

abbrev pub new_pair : List (List ℕ) → ℕ → List ℕ → PairLinkValue
new_pair pieces room fails = record {
  pieces = new_pieces pieces;
  taken = [];
  room = room;
  plan = planned fails;
  counts = no_counts;
  calls = Some no_calls;
}

-- how many bytes can still be written
abbrev pub free_room : PairLinkValue → ℕ
free_room link = link.room - length link.taken
