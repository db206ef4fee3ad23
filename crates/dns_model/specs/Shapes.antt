-- What an rdata of each type is made of, names spelled out (RFC 1035, 3.3; RFC 4034; RFC 5155, 3).
use Rattle.std.specs.Prelude.{ℕ, ◌/◌, ◌%◌, ◌-◌, ◌^◌, Bool, true, false, ◌==◌, ◌&&◌, ◌||◌, nat_le, nat_lt, List, [], ◌∷◌, length, take, drop, map, if◌then◌else◌, Option, None, Some, slice_index, option_map}
use Rattle.std.specs.Option.{is_some, option_map_or}
use Rattle.std.specs.List.{list_any, concat}
use Rattle.dns_model.specs.Names.{Labels, folded, wire}
use Rattle.dns_model.specs.NameForm.{name_in}
use Rattle.dns_model.specs.Types.{type_a, type_ns, type_cname, type_soa, type_aaaa, type_dname, type_ds, type_rrsig, type_nsec, type_dnskey, type_nsec3}
use Rattle.dns_model.specs.OptionSteps.{◌>>=◌}

-- one field of an rdata
pub data Field : Type 0 where
  Octets : ℕ → Field
  DomainName : Field
  CharacterString : Field
  TypeBitmap : Field
  Remainder : Field

-- one window of a type bitmap: its number and its bits (RFC 4034, 4.1.2)
pub record Window : Type 0 where
  pub number : ℕ
  pub bits : List ℕ

-- the bytes that a length byte counts, and the bytes after them
unfoldable pub counted_in : List ℕ → Option (List ℕ × List ℕ)
counted_in [] = None
counted_in (size ∷ rest) = if nat_le size (length rest) then Some (take size rest, drop size rest) else None

-- the window at the front, of 1 to 32 bytes, and the bytes after it
unfoldable pub window_in : List ℕ → Option (Window × List ℕ)
window_in (number ∷ size ∷ rest) =
    if nat_lt 0 size && nat_le size 32 && nat_le size (length rest)
    then Some (record { number = number; bits = take size rest }, drop size rest)
    else None
window_in _ = None

-- the row of windows that the bytes are; the first list only bounds how many are read
unfoldable pub windows_in : List ℕ → List ℕ → Option (List Window)
windows_in bound [] = Some []
windows_in [] (byte ∷ bytes) = None
windows_in (_ ∷ bound) (byte ∷ bytes) = do
  window ← window_in (byte ∷ bytes)
  windows ← windows_in bound window.1
  Some (window.0 ∷ windows)

-- the windows' numbers rise
abbrev pub are_rising : List Window → Bool
are_rising (a ∷ b ∷ windows) = nat_lt a.number b.number && are_rising (b ∷ windows)
are_rising _ = true

-- the bytes are a type bitmap
unfoldable pub is_bitmap : List ℕ → Bool
is_bitmap bytes = option_map_or are_rising (windows_in bytes bytes) false

-- bit 0 is the highest of the first byte
abbrev pub has_bit : List ℕ → ℕ → Bool
has_bit bits place = (slice_index bits (place / 8) / 2 ^ (7 - place % 8)) % 2 == 1

abbrev pub window_has : ℕ → Window → Bool
window_has rtype window = (window.number == rtype / 256) && has_bit window.bits (rtype % 256)

abbrev pub windows_have : ℕ → Option (List Window) → Bool
windows_have rtype None = false
windows_have rtype (Some windows) = list_any (window_has rtype) windows

-- a bitmap holds a type's bit
unfoldable pub bitmap_has : List ℕ → ℕ → Bool
bitmap_has bytes rtype = windows_have rtype (windows_in bytes bytes)

-- a field as it is read: bytes as they stand, or a name
pub data Part : Type 0 where
  Plain : List ℕ → Part
  Named : Labels → Part

abbrev pub plain_front : ℕ → List ℕ → Option (Part × List ℕ)
plain_front n bytes = if nat_le n (length bytes) then Some (Plain (take n bytes), drop n bytes) else None

-- the part at the front that is a field, and the bytes after it
abbrev pub part_in : Field → List ℕ → Option (Part × List ℕ)
part_in (Octets n) bytes = plain_front n bytes
part_in DomainName bytes = option_map (λ name. (Named name.0, name.1)) (name_in bytes)
part_in CharacterString bytes = option_map (λ text. (Plain (length text.0 ∷ text.0), text.1)) (counted_in bytes)
part_in TypeBitmap bytes = if is_bitmap bytes then Some (Plain bytes, []) else None
part_in Remainder bytes = Some (Plain bytes, [])

-- the parts of an rdata that is exactly these fields
unfoldable pub parts_in : List Field → List ℕ → Option (List Part)
parts_in [] [] = Some []
parts_in [] (byte ∷ bytes) = None
parts_in (field ∷ fields) bytes = do
  part ← part_in field bytes
  parts ← parts_in fields part.1
  Some (part.0 ∷ parts)

-- the fields of each type's rdata; a type that isn't here is opaque. Types that nothing else names stand by their numbers:
-- PTR 12, MX 15, RP 17, AFSDB 18, RT 21, PX 26, SRV 33, NAPTR 35, KX 36
unfoldable pub shape_of : ℕ → List Field
shape_of rtype =
    if rtype == type_a then Octets 4 ∷ []
    else if (rtype == type_ns) || (rtype == type_cname) || (rtype == 12) || (rtype == type_dname) then DomainName ∷ []
    else if rtype == type_soa then DomainName ∷ DomainName ∷ Octets 20 ∷ []
    else if (rtype == 15) || (rtype == 18) || (rtype == 21) || (rtype == 36) then Octets 2 ∷ DomainName ∷ []
    else if rtype == 17 then DomainName ∷ DomainName ∷ []
    else if rtype == 26 then Octets 2 ∷ DomainName ∷ DomainName ∷ []
    else if rtype == type_aaaa then Octets 16 ∷ []
    else if rtype == 33 then Octets 6 ∷ DomainName ∷ []
    else if rtype == 35 then Octets 4 ∷ CharacterString ∷ CharacterString ∷ CharacterString ∷ DomainName ∷ []
    else if rtype == type_ds then Octets 4 ∷ Remainder ∷ []
    else if rtype == type_rrsig then Octets 18 ∷ DomainName ∷ Remainder ∷ []
    else if rtype == type_nsec then DomainName ∷ TypeBitmap ∷ []
    else if rtype == type_dnskey then Octets 4 ∷ Remainder ∷ []
    else if rtype == type_nsec3 then Octets 4 ∷ CharacterString ∷ CharacterString ∷ TypeBitmap ∷ []
    else Remainder ∷ []

-- the rdata has its type's shape, names spelled out
abbrev pub has_shape : ℕ → List ℕ → Bool
has_shape rtype rdata = is_some (parts_in (shape_of rtype) rdata)

-- the types whose names are lower-cased in canonical form (RFC 4034, 6.2; RFC 6840, 5.1 takes NSEC out)
unfoldable pub is_lowered_type : ℕ → Bool
is_lowered_type rtype =
    list_any (λ lowered. rtype == lowered)
    (type_ns ∷ type_cname ∷ type_soa ∷ 12 ∷ 15 ∷ 17 ∷ 18 ∷ 21 ∷ 26 ∷ 33 ∷ 35 ∷ 36 ∷ type_dname ∷ type_rrsig ∷ [])

abbrev pub canonical_part : Part → List ℕ
canonical_part (Plain bytes) = bytes
canonical_part (Named name) = wire (folded name)

-- an rdata with the names in it lower-cased where its type asks it; one that hasn't its type's shape stays (RFC 4034, 6.2)
unfoldable pub canonical_form : ℕ → List ℕ → List ℕ
canonical_form rtype rdata =
    if is_lowered_type rtype
    then option_map_or (λ parts. concat (map canonical_part parts)) (parts_in (shape_of rtype) rdata) rdata
    else rdata
