-- An rdata that was read is read again where its bytes stand, names spelled out.
use Rattle.std.proofs.Common.{◌≡◌, ℕ, suc, ◌+◌, ◌-◌, ◌≤◌, ◌<◌, Bool, true, false, ◌&&◌, cond, List, [], ◌∷◌, ◌++◌, length, get_or, drop, Option, None, Some, Result, Ok, Err, refl, sym, ap, ◌∙◌, subst, arith, length-append, length-drop, add-zero, drop-cons}
use Rattle.std.specs.Prelude.{nat_le, nat_lt, slice_range, slice_index, ◌==◌, not}
use Rattle.std.proofs.lemmas.Bool.Decides.{nat_tests}
use Rattle.std.proofs.lemmas.Bool.{and_parts}
use Rattle.std.proofs.lemmas.List.{length-take-le, append-nil, nil_from_length}
use Rattle.dns_model.specs.Names.{Labels, wire, is_name}
use Rattle.dns_model.specs.Types.{has_shapes}
use Rattle.dns_model.specs.Gives.{or_error}
use Rattle.dns_model.specs.Shapes.{Field, Octets, DomainName, CharacterString, TypeBitmap, Remainder, is_bitmap, shape_of}
use Rattle.dns_model.proofs.WireLemmas.{first_of_some}
use Rattle.dns_message.specs.declared.decode_error.DecodeError.{DecodeError}
use Rattle.dns_message.specs.declared.decode_error.DecodeKind.TheVariants.{Short, BadRdata}
use Rattle.dns_model.specs.ResultSteps.{◌>>=◌}
use Rattle.dns_message.specs.Reading.{fault}
use Rattle.dns_message.specs.NameAt.{name_at, spelled_at}
use Rattle.dns_message.specs.RdataAt.{octets_at, counted_octets_at, rest_at, bitmap_at, field_at, fields_at, shaped_at, rdata_at}
use Rattle.dns_message.proofs.NameWriting.{name_good, name_again}
use Rattle.dns_message.proofs.Standing.{Stands, stands_front, stands_back, stands_inside, stands_range, stands_byte}
use Rattle.std.specs.Result.{result_ok}
use Rattle.dns_message.proofs.RdataReading.{with_bytes, after_field}
use Rattle.dns_model.specs.OptionSteps as steps

-- a test that chose a value
record IsChosen (test : Bool) (x y : List ℕ × ℕ) : Type 0 where
  yes_is : test ≡ true
  same : x ≡ y

chosen : (test : Bool) (x y : List ℕ × ℕ) → cond {A = Option (List ℕ × ℕ)} test (Some x) None ≡ Some y → IsChosen test x y
chosen true x y h = record { yes_is = refl; same = cc }
chosen false x y h = absurd cc

-- the first byte of bytes that are taken out
first_byte : (bytes : List ℕ) (pos n : ℕ) → pos < length bytes → get_or (slice_range bytes pos (pos + (1 + n))) 0 0 ≡ get_or bytes pos 0
first_byte bytes pos n lt =
    let k : pos + (1 + n) - pos ≡ suc n = omega arith in
    let d : drop pos bytes ≡ get_or bytes pos 0 ∷ drop (suc pos) bytes = drop-cons bytes pos 0 lt in
    rw (k, d) refl

never : {X : Type 0} (b : Bool) → not b ≡ true → b ≡ true → X
never true p q = absurd cc
never false p q = absurd cc

range_length : (bytes : List ℕ) (pos stop : ℕ) → pos ≤ stop → stop ≤ length bytes → pos + length (slice_range bytes pos stop) ≡ stop
range_length bytes pos stop le inside = omega (arith, length-take-le (stop - pos) (drop pos bytes) (omega (arith, length-drop pos bytes)))

-- the fields that take all that is left
abbrev pub is_last : Field → Bool
is_last (Octets n) = false
is_last DomainName = false
is_last CharacterString = false
is_last TypeBitmap = true
is_last Remainder = true

-- a field that was read, and what is read where its bytes stand
record IsAgain (f : Field) (front : List ℕ) : Type 0 where
  again : (bytes : List ℕ) (pos stop : ℕ) → Stands bytes pos front → pos + length front ≤ stop
      → (is_last f ≡ true → pos + length front ≡ stop)
      → field_at f bytes pos stop ≡ Some (front, pos + length front)

octets_again : (n : ℕ) (bytes : List ℕ) (pos stop : ℕ) (front : List ℕ) (next : ℕ) → stop ≤ length bytes
    → octets_at n bytes pos stop ≡ Some (front, next)
    → (other : List ℕ) (at end : ℕ) → Stands other at front → at + length front ≤ end
    → octets_at n other at end ≡ Some (front, at + length front)
unfolding octets_at
octets_again n bytes pos stop front next inside h other at end s fits =
    let c = chosen (nat_le (pos + n) stop) (slice_range bytes pos (pos + n), pos + n) (front, next) h in
    let le : pos + n ≤ stop = grind (arith, nat_tests, c.yes_is) in
    let is : slice_range bytes pos (pos + n) ≡ front = ap (λ (x : List ℕ × ℕ). x.0) c.same in
    let long : length front ≡ n = omega (arith, range_length bytes pos (pos + n) (omega arith) (omega (arith, le)), ap length is) in
    let test : nat_le (at + n) end ≡ true = grind (arith, nat_tests, long) in
    let whole : slice_range other at (at + n) ≡ front = ap (λ (k : ℕ). slice_range other at (at + k)) (sym long)
    ∙ stands_range other at front s in
    rw (test, whole) (ap (λ (k : ℕ). Some (front, at + k)) (sym long))

counted_cases : (test : Bool) (bytes : List ℕ) (pos stop : ℕ) (front : List ℕ) (next : ℕ) → stop ≤ length bytes → nat_lt pos stop ≡ test
    → cond {A = Option (List ℕ × ℕ)} test (octets_at (1 + slice_index bytes pos) bytes pos stop) None ≡ Some (front, next)
    → (other : List ℕ) (at end : ℕ) → Stands other at front → at + length front ≤ end
    → counted_octets_at other at end ≡ Some (front, at + length front)
unfolding counted_octets_at octets_at
counted_cases false bytes pos stop front next inside is h other at end s fits = absurd cc
counted_cases true bytes pos stop front next inside is h other at end s fits =
    let n : ℕ = 1 + get_or bytes pos 0 in
    let c = chosen (nat_le (pos + (1 + get_or bytes pos 0)) stop) (
      slice_range bytes pos (pos + (1 + get_or bytes pos 0)),
      pos + (1 + get_or bytes pos 0),
    ) (front, next) h in
    let le : pos + (1 + get_or bytes pos 0) ≤ stop = grind (arith, nat_tests, c.yes_is) in
    let is_front : slice_range bytes pos (pos + (1 + get_or bytes pos 0)) ≡ front = ap (λ (x : List ℕ × ℕ). x.0) c.same in
    let long : length front ≡ 1 + get_or bytes pos 0 =
    omega (arith, range_length bytes pos (pos + (1 + get_or bytes pos 0)) (omega arith) (omega (arith, le)), ap length is_front) in
    let first : get_or front 0 0 ≡ get_or bytes pos 0 = ap (λ (x : List ℕ). get_or x 0 0) (sym is_front)
    ∙ first_byte bytes pos (get_or bytes pos 0) (omega (arith, le)) in
    let byte : get_or other at 0 ≡ get_or bytes pos 0 = ap (λ (k : ℕ). get_or other k 0) (sym (add-zero at))
    ∙ stands_byte other at front 0 s (omega (arith, long)) ∙ first in
    let some : nat_lt at end ≡ true = grind (arith, nat_tests, long) in
    rw (some, byte) (octets_again (1 + get_or bytes pos 0) bytes pos stop front next inside h other at end s fits)

counted_again : (bytes : List ℕ) (pos stop : ℕ) (front : List ℕ) (next : ℕ) → stop ≤ length bytes
    → counted_octets_at bytes pos stop ≡ Some (front, next)
    → (other : List ℕ) (at end : ℕ) → Stands other at front → at + length front ≤ end
    → counted_octets_at other at end ≡ Some (front, at + length front)
unfolding counted_octets_at
counted_again bytes pos stop front next inside h other at end s fits =
    counted_cases (nat_lt pos stop) bytes pos stop front next inside refl h other at end s fits

abbrev pub Parts : Type 0
Parts = Option (List ℕ × ℕ)

rest_again : (bytes : List ℕ) (pos stop : ℕ) (front : List ℕ) → (other : List ℕ) (at end : ℕ) → Stands other at front
    → at + length front ≡ end → rest_at other at end ≡ Some (front, at + length front)
unfolding rest_at
rest_again bytes pos stop front other at end s fits =
    let test : nat_le at end ≡ true = grind (arith, nat_tests, fits) in
    let whole : slice_range other at end ≡ front = ap (slice_range other at) (sym fits) ∙ stands_range other at front s in
    rw (test, whole) (ap (λ (k : ℕ). Some (front, k)) (sym fits))

bitmap_again : (bytes : List ℕ) (pos stop : ℕ) (front : List ℕ) (next : ℕ) → bitmap_at bytes pos stop ≡ Some (front, next)
    → (other : List ℕ) (at end : ℕ) → Stands other at front → at + length front ≡ end
    → bitmap_at other at end ≡ Some (front, at + length front)
unfolding bitmap_at
bitmap_again bytes pos stop front next h other at end s fits =
    let c = chosen (nat_le pos stop && is_bitmap (slice_range bytes pos stop)) (slice_range bytes pos stop, stop) (front, next) h in
    let is : slice_range bytes pos stop ≡ front = ap (λ (x : List ℕ × ℕ). x.0) c.same in
    let parts = and_parts (nat_le pos stop) (is_bitmap (slice_range bytes pos stop)) c.yes_is in
    let map_is : is_bitmap front ≡ true = ap is_bitmap (sym is) ∙ parts.1 in
    let test : nat_le at end ≡ true = grind (arith, nat_tests, fits) in
    let whole : slice_range other at end ≡ front = ap (slice_range other at) (sym fits) ∙ stands_range other at front s in
    rw (whole, test, map_is) (ap (λ (k : ℕ). Some (front, k)) (sym fits))

named_at : (r : Result (Labels × ℕ) DecodeError) (bytes : List ℕ) (pos : ℕ) (front : List ℕ) (next : ℕ) → name_at bytes pos ≡ r
    → result_ok (◌>>=◌ {B = List ℕ × ℕ} r (λ name. Ok (wire name.0, name.1))) ≡ Some (front, next)
    → (other : List ℕ) (at : ℕ) → Stands other at front → result_ok (spelled_at other at) ≡ Some (front, at + length front)
unfolding spelled_at
named_at (Err e) bytes pos front next is h other at s = absurd cc
named_at (Ok x) bytes pos front next is h other at s =
    let same : wire x.0 ≡ front = first_of_some h in
    let good : is_name x.0 ≡ true = name_good bytes pos x.0 x.1 is in
    let read : name_at other at ≡ Ok (x.0, at + length (wire x.0)) =
    name_again x.0 other at (subst (λ (w : List ℕ). Stands other at w) (sym same) s) good in
    rw read (ap (λ (w : List ℕ). Some (w, at + length w)) same)

named_again : (bytes : List ℕ) (pos : ℕ) (front : List ℕ) (next : ℕ) → result_ok (spelled_at bytes pos) ≡ Some (front, next)
    → (other : List ℕ) (at : ℕ) → Stands other at front → result_ok (spelled_at other at) ≡ Some (front, at + length front)
unfolding spelled_at
named_again bytes pos front next h other at s = named_at (name_at bytes pos) bytes pos front next refl h other at s

field_again : (f : Field) (bytes : List ℕ) (pos stop : ℕ) (front : List ℕ) (next : ℕ) → stop ≤ length bytes
    → field_at f bytes pos stop ≡ Some (front, next) → IsAgain f front
unfolding field_at
field_again (Octets n) bytes pos stop front next inside h =
    record { again = λ other at end s fits last. octets_again n bytes pos stop front next inside h other at end s fits }
field_again DomainName bytes pos stop front next inside h =
    record { again = λ other at end s fits last. named_again bytes pos front next h other at s }
field_again CharacterString bytes pos stop front next inside h =
    record { again = λ other at end s fits last. counted_again bytes pos stop front next inside h other at end s fits }
field_again TypeBitmap bytes pos stop front next inside h =
    record { again = λ other at end s fits last. bitmap_again bytes pos stop front next h other at end s (last refl) }
field_again Remainder bytes pos stop front next inside h =
    record { again = λ other at end s fits last. rest_again bytes pos stop front other at end s (last refl) }

-- ---- fields in a row

-- only the last field takes all that is left
abbrev pub ends_right : List Field → Bool
ends_right [] = true
ends_right (f ∷ []) = true
ends_right (f ∷ g ∷ fields) = not (is_last f) && ends_right (g ∷ fields)

record IsRow (o : Option (List ℕ × ℕ)) (more : ℕ → Option (List ℕ)) (all : List ℕ) : Type 0 where
  front : List ℕ
  next : ℕ
  rest : List ℕ
  first : o ≡ Some (front, next)
  others : more next ≡ Some rest
  whole : all ≡ front ++ rest

row_rest : (front : List ℕ) (next : ℕ) (o : Option (List ℕ)) (more : ℕ → Option (List ℕ)) (all : List ℕ) → more next ≡ o
    → with_bytes front o ≡ Some all → IsRow (Some (front, next)) more all
row_rest front next None more all is h = absurd cc
row_rest front next (Some rest) more all is h = let e : front ++ rest ≡ all = cc in
    record { front = front; next = next; rest = rest; first = refl; others = is; whole = sym e }

row : (o : Option (List ℕ × ℕ)) (more : ℕ → Option (List ℕ)) (all : List ℕ) → after_field o more ≡ Some all → IsRow o more all
row None more all h = absurd cc
row (Some x) more all h = row_rest x.0 x.1 (more x.1) more all refl h

stopped : (pos stop : ℕ) (test : Bool) (all : List ℕ) → cond {A = Option (List ℕ)} test (Some []) None ≡ Some all → all ≡ []
stopped pos stop true all h = let e : [] ≡ all = cc in sym e
stopped pos stop false all h = absurd cc

no_fields : (bytes : List ℕ) (pos stop : ℕ) (all : List ℕ) → fields_at [] bytes pos stop ≡ Some all → all ≡ []
unfolding fields_at
no_fields bytes pos stop all h = stopped pos stop (pos == stop) all h

done_again : (bytes : List ℕ) (pos stop : ℕ) → pos ≡ stop → fields_at [] bytes pos stop ≡ Some []
unfolding fields_at
done_again bytes pos stop h = let test : (pos == stop) ≡ true = grind (arith, nat_tests) in rw test refl

pub fields_again : (fields : List Field) (bytes : List ℕ) (pos stop : ℕ) (all : List ℕ) → ends_right fields ≡ true
    → stop ≤ length bytes → fields_at fields bytes pos stop ≡ Some all
    → (other : List ℕ) (at end : ℕ) → Stands other at all → at + length all ≡ end → fields_at fields other at end ≡ Some all
unfolding fields_at
fields_again [] bytes pos stop all right inside h other at end s fits =
    let none = no_fields bytes pos stop all h in
    rw none (done_again other at end (omega (arith, ap length none)))
fields_again (f ∷ []) bytes pos stop all right inside h other at end s fits =
    let r = row (field_at f bytes pos stop) (λ k. fields_at [] bytes k stop) all h in
    let none = no_fields bytes r.next stop r.rest r.others in
    let same : all ≡ r.front = r.whole ∙ ap (λ (x : List ℕ). r.front ++ x) none ∙ append-nil r.front in
    let here : Stands other at r.front = subst (λ (x : List ℕ). Stands other at x) same s in
    let long : at + length r.front ≡ end = omega (arith, ap length same) in
    let one : field_at f other at end ≡ Some (r.front, at + length r.front) =
    (field_again f bytes pos stop r.front r.next inside r.first).again other at end here (omega (arith, long)) (λ last. long) in
    rw (one, done_again other (at + length r.front) end long) (ap Some (append-nil r.front ∙ sym same))
fields_again (f ∷ g ∷ fields) bytes pos stop all right inside h other at end s fits =
    let parts = and_parts (not (is_last f)) (ends_right (g ∷ fields)) right in
    let r = row (field_at f bytes pos stop) (λ k. fields_at (g ∷ fields) bytes k stop) all h in
    let both : Stands other at (r.front ++ r.rest) = subst (λ (x : List ℕ). Stands other at x) r.whole s in
    let here = stands_front other at r.front r.rest both in
    let behind = stands_back other at r.front r.rest both in
    let long : at + length r.front + length r.rest ≡ end = omega (arith, ap length r.whole, length-append r.front r.rest) in
    let one : field_at f other at end ≡ Some (r.front, at + length r.front) =
    (field_again f bytes pos stop r.front r.next inside r.first).again other at end here (omega (arith, long))
    (λ last. never (is_last f) parts.0 last) in
    let rest : fields_at (g ∷ fields) other (at + length r.front) end ≡ Some r.rest =
    fields_again (g ∷ fields) bytes r.next stop r.rest parts.1 inside r.others other (at + length r.front) end behind long in
    rw (one, rest) (ap Some (sym r.whole))

-- each type's shape is such a row
shape_right : (rtype : ℕ) → ends_right (shape_of rtype) ≡ true
unfolding shape_of
shape_right rtype = grind (arith, nat_tests)

-- ---- a whole rdata

limit_cases : (test : Bool) (bytes rdata : List ℕ) → cond {A = Option (List ℕ)} test (Some bytes) None ≡ Some rdata
    → (let o : Option (List ℕ) = Some bytes in o) ≡ Some rdata
limit_cases true bytes rdata h = h
limit_cases false bytes rdata h = absurd cc

abbrev within_rdata_limit : Option (List ℕ) → Option (List ℕ)
within_rdata_limit rdata = steps.◌>>=◌ rdata (λ bytes. cond (nat_le (length bytes) 65535) (Some bytes) None)

limited : (o : Option (List ℕ)) (rdata : List ℕ) → within_rdata_limit o ≡ Some rdata → o ≡ Some rdata
limited None rdata h = absurd cc
limited (Some bytes) rdata h = limit_cases (nat_le (length bytes) 65535) bytes rdata h

pub record IsRdataAgain (rtype class : ℕ) (rdata : List ℕ) : Type 0 where
  pub again : (bytes : List ℕ) (pos : ℕ) → Stands bytes pos rdata → rdata_at rtype class bytes (length rdata) pos ≡ Ok rdata

some_error : (e : DecodeError) (o : Option (List ℕ)) (rdata : List ℕ) → or_error e o ≡ Ok rdata → o ≡ Some rdata
some_error e None rdata h = absurd cc
some_error e (Some bytes) rdata h = let same : bytes ≡ rdata = cc in ap Some same

-- an rdata of no bytes is taken in each type and class
empty_again : (rtype class : ℕ) (bytes : List ℕ) (pos : ℕ) → pos ≤ length bytes → rdata_at rtype class bytes 0 pos ≡ Ok []
unfolding rdata_at
empty_again rtype class bytes pos inside =
    let test : nat_lt (length bytes) (pos + 0) ≡ false = grind (arith, nat_tests) in
    rw test refl

opaque_again : (rtype class : ℕ) (rdata bytes : List ℕ) (pos : ℕ) → has_shapes class ≡ false → 0 < length rdata
    → Stands bytes pos rdata → rdata_at rtype class bytes (length rdata) pos ≡ Ok rdata
unfolding rdata_at
opaque_again rtype class rdata bytes pos free some s =
    let inside = stands_inside bytes pos rdata s in
    let test : nat_lt (length bytes) (pos + length rdata) ≡ false = grind (arith, nat_tests, inside) in
    let full : (length rdata == 0) ≡ false = grind (arith, nat_tests, some) in
    rw (test, full, free, stands_range bytes pos rdata s) refl

shaped_again : (rtype class : ℕ) (rdata bytes : List ℕ) (pos : ℕ) → has_shapes class ≡ true → 0 < length rdata → Stands bytes pos rdata
    → shaped_at rtype bytes pos (pos + length rdata) ≡ Some rdata → rdata_at rtype class bytes (length rdata) pos ≡ Ok rdata
unfolding rdata_at
shaped_again rtype class rdata bytes pos free some s is =
    let inside = stands_inside bytes pos rdata s in
    let test : nat_lt (length bytes) (pos + length rdata) ≡ false = grind (arith, nat_tests, inside) in
    let full : (length rdata == 0) ≡ false = grind (arith, nat_tests, some) in
    rw (test, full, free, is) refl

-- the shape that was read is read again
shape_again : (rtype : ℕ) (from : List ℕ) (start stop : ℕ) (rdata : List ℕ) → stop ≤ length from
    → shaped_at rtype from start stop ≡ Some rdata
    → (bytes : List ℕ) (pos : ℕ) → Stands bytes pos rdata → shaped_at rtype bytes pos (pos + length rdata) ≡ Some rdata
unfolding shaped_at
shape_again rtype from start stop rdata inside h bytes pos s =
    let was = limited (fields_at (shape_of rtype) from start stop) rdata h in
    let short : within_rdata_limit (Some rdata) ≡ Some rdata = ap within_rdata_limit (sym was) ∙ h in
    ap within_rdata_limit (fields_again (shape_of rtype) from start stop rdata (shape_right rtype) inside was bytes pos
    (pos + length rdata) s refl) ∙ short

by_length : (rtype class : ℕ) (rdata : List ℕ) (test : Bool) → (length rdata == 0) ≡ test
    → ((bytes : List ℕ) (pos : ℕ) → 0 < length rdata → Stands bytes pos rdata → rdata_at rtype class bytes (length rdata) pos ≡ Ok rdata)
    → IsRdataAgain rtype class rdata
by_length rtype class rdata true is more =
    let none : length rdata ≡ 0 = grind (arith, nat_tests) in
    let empty : rdata ≡ [] = nil_from_length rdata none in
    record { again = λ bytes pos s. rw empty (empty_again rtype class bytes pos (omega (arith, stands_inside bytes pos rdata s))) }
by_length rtype class rdata false is more =
    let some : 0 < length rdata = grind (arith, nat_tests) in
    record { again = λ bytes pos s. more bytes pos some s }

by_class : (rtype class : ℕ) (from : List ℕ) (size start : ℕ) (rdata : List ℕ) (test : Bool) → has_shapes class ≡ test
    → start + size ≤ length from
    → cond {A = Result (List ℕ) DecodeError} (not test) (Ok (slice_range from start (start + size)))
    (or_error (fault BadRdata start) (shaped_at rtype from start (start + size))) ≡ Ok rdata
    → IsRdataAgain rtype class rdata
by_class rtype class from size start rdata false is inside h =
    by_length rtype class rdata _ refl (λ bytes pos some s. opaque_again rtype class rdata bytes pos is some s)
by_class rtype class from size start rdata true is inside h =
    let was = some_error (fault BadRdata start) (shaped_at rtype from start (start + size)) rdata h in
    by_length rtype class rdata _ refl (λ bytes pos some s. shaped_again rtype class rdata bytes pos is some s
    (shape_again rtype from start (start + size) rdata inside was bytes pos s))

by_size : (rtype class : ℕ) (from : List ℕ) (size start : ℕ) (rdata : List ℕ) (test : Bool) → start + size ≤ length from
    → cond {A = Result (List ℕ) DecodeError} test (Ok [])
    (cond (not (has_shapes class)) (Ok (slice_range from start (start + size)))
    (or_error (fault BadRdata start) (shaped_at rtype from start (start + size)))) ≡ Ok rdata
    → IsRdataAgain rtype class rdata
by_size rtype class from size start rdata true inside h =
    let empty : [] ≡ rdata = cc in
    record { again = λ bytes pos s. rw (← empty) (empty_again rtype class bytes pos (omega (arith, stands_inside bytes pos rdata s))) }
by_size rtype class from size start rdata false inside h = by_class rtype class from size start rdata (has_shapes class) refl inside h

by_end : (rtype class : ℕ) (from : List ℕ) (size start : ℕ) (rdata : List ℕ) (test : Bool) → nat_lt (length from) (start + size) ≡ test
    → cond {A = Result (List ℕ) DecodeError} test (Err (fault Short start))
    (cond (size == 0) (Ok []) (cond (not (has_shapes class)) (Ok (slice_range from start (start + size)))
    (or_error (fault BadRdata start) (shaped_at rtype from start (start + size))))) ≡ Ok rdata
    → IsRdataAgain rtype class rdata
by_end rtype class from size start rdata true is h = absurd cc
by_end rtype class from size start rdata false is h = let inside : start + size ≤ length from = grind (arith, nat_tests) in
    by_size rtype class from size start rdata (size == 0) inside h

pub rdata_again : (rtype class : ℕ) (from : List ℕ) (size start : ℕ) (rdata : List ℕ)
    → rdata_at rtype class from size start ≡ Ok rdata → IsRdataAgain rtype class rdata
unfolding rdata_at
rdata_again rtype class from size start rdata h = by_end rtype class from size start rdata _ refl h
