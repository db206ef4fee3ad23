-- The rdata of a record in a message, with the names in it spelled out (RFC 1035, 3.3 and 4.1.4; RFC 3597, 4).
use Rattle.std.specs.Prelude.{ℕ, ◌+◌, ◌==◌, ◌&&◌, not, List, [], ◌∷◌, ◌++◌, length, Option, None, Some, Result, Ok, Err, nat_le, nat_lt, if◌then◌else◌, slice_index, slice_range}
use Rattle.dns_model.specs.Gives.{or_error}
use Rattle.dns_model.specs.Types.{has_shapes}
use Rattle.dns_model.specs.Shapes.{Field, Octets, DomainName, CharacterString, TypeBitmap, Remainder, is_bitmap, shape_of}
use Rattle.dns_message.specs.declared.decode_error.DecodeKind.TheVariants.{Short, BadRdata}
use Rattle.dns_message.specs.declared.decode_error.DecodeError.{DecodeError}
use Rattle.dns_message.specs.Reading.{fault}
use Rattle.dns_message.specs.NameAt.{spelled_at}
use Rattle.dns_model.specs.OptionSteps.{◌>>=◌}
use Rattle.std.specs.Result.{result_ok}

-- the bytes that stand before a place where the rdata stops, and the place after them
unfoldable pub octets_at : ℕ → List ℕ → ℕ → ℕ → Option (List ℕ × ℕ)
octets_at n bytes pos stop = if nat_le (pos + n) stop then Some (slice_range bytes pos (pos + n), pos + n) else None

-- a length byte with that many bytes
unfoldable pub counted_octets_at : List ℕ → ℕ → ℕ → Option (List ℕ × ℕ)
counted_octets_at bytes pos stop = if nat_lt pos stop then octets_at (1 + slice_index bytes pos) bytes pos stop else None

-- all bytes up to the place where the rdata stops
unfoldable pub rest_at : List ℕ → ℕ → ℕ → Option (List ℕ × ℕ)
rest_at bytes pos stop = if nat_le pos stop then Some (slice_range bytes pos stop, stop) else None

unfoldable pub bitmap_at : List ℕ → ℕ → ℕ → Option (List ℕ × ℕ)
bitmap_at bytes pos stop = if nat_le pos stop && is_bitmap (slice_range bytes pos stop) then Some (slice_range bytes pos stop, stop) else None

-- the bytes of a field, a name spelled out, and the place after the field
unfoldable pub field_at : Field → List ℕ → ℕ → ℕ → Option (List ℕ × ℕ)
field_at (Octets n) bytes pos stop = octets_at n bytes pos stop
field_at DomainName bytes pos stop = result_ok (spelled_at bytes pos)
field_at CharacterString bytes pos stop = counted_octets_at bytes pos stop
field_at TypeBitmap bytes pos stop = bitmap_at bytes pos stop
field_at Remainder bytes pos stop = rest_at bytes pos stop

-- the bytes of an rdata that is exactly these fields and stops where the last one ends
unfoldable pub fields_at : List Field → List ℕ → ℕ → ℕ → Option (List ℕ)
fields_at [] bytes pos stop = if pos == stop then Some [] else None
fields_at (field ∷ fields) bytes pos stop = do
  front ← field_at field bytes pos stop
  rest ← fields_at fields bytes front.1 stop
  Some (front.0 ++ rest)

-- the bytes of an rdata in the shape of its type, at most 65,535
unfoldable pub shaped_at : ℕ → List ℕ → ℕ → ℕ → Option (List ℕ)
shaped_at rtype bytes pos stop = do
  rdata ← fields_at (shape_of rtype) bytes pos stop
  if nat_le (length rdata) 65535 then Some rdata else None

-- `size` bytes as they stand
unfoldable pub opaque_at : List ℕ → ℕ → ℕ → Result (List ℕ) DecodeError
opaque_at bytes size pos = if nat_lt (length bytes) (pos + size) then Err (fault Short pos) else Ok (slice_range bytes pos (pos + size))

-- the rdata of `size` bytes at a place, by its type and class; an empty one is allowed for each type
unfoldable pub rdata_at : ℕ → ℕ → List ℕ → ℕ → ℕ → Result (List ℕ) DecodeError
rdata_at rtype class bytes size pos =
    if nat_lt (length bytes) (pos + size) then Err (fault Short pos)
    else if size == 0 then Ok []
    else if not (has_shapes class) then Ok (slice_range bytes pos (pos + size))
    else or_error (fault BadRdata pos) (shaped_at rtype bytes pos (pos + size))
