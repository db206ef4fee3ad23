-- Fields of an rdata that stand as they are spelled, without a pointer.
use Rattle.std.proofs.Common.{◌≡◌, ℕ, ◌+◌, ◌-◌, ◌≤◌, List, ◌++◌, true, cond, length, take, drop, Option, None, Some, Ok, refl, sym, ap, ◌∙◌, subst, arith, length-take-le, length-append, length-drop}
use Rattle.std.specs.Prelude.{slice_range, ◌==◌}
use Rattle.std.proofs.lemmas.Bool.Decides.{nat_tests}
use Rattle.std.proofs.lemmas.List.{take-append-drop}
use Rattle.dns_model.specs.Names.{Labels, wire}
use Rattle.dns_model.specs.NameForm.{name_in}
use Rattle.dns_model.specs.Shapes.{Field, DomainName}
use Rattle.dns_model.proofs.WireLemmas.{name_in_inverse}
use Rattle.dns_message.specs.NameAt.{name_at, spelled_at}
use Rattle.dns_message.specs.RdataAt.{field_at}
use Rattle.dns_message.specs.Plain.{EndsAt}
use Rattle.dns_message.specs.Fitting.{IsAppended}
use Rattle.dns_message.proofs.NameReading.{two_ranges}
use Rattle.dns_message.proofs.NameWriting.{name_again}
use Rattle.dns_message.proofs.Standing.{Stands, stands_front, stands_range}

-- a part stands where it was taken
stands_part : (bytes : List ℕ) (pos stop : ℕ) → pos ≤ stop → stop ≤ length bytes → Stands bytes pos (slice_range bytes pos stop)
stands_part bytes pos stop rises inside = record {
  before = take pos bytes;
  after = drop (stop - pos) (drop pos bytes);
  whole = sym (ap (λ xs. take pos bytes ++ xs) (take-append-drop (stop - pos) (drop pos bytes)) ∙ take-append-drop pos bytes);
  long = length-take-le pos bytes (omega (arith, rises, inside));
}

-- the name at the front of a part
pub name_ends : (bytes : List ℕ) (pos stop : ℕ) (labels : Labels) (rest : List ℕ) → pos ≤ stop → stop ≤ length bytes
    → name_in (slice_range bytes pos stop) ≡ Some (labels, rest) → EndsAt DomainName bytes pos stop (pos + length (wire labels))
unfolding field_at spelled_at
name_ends bytes pos stop labels rest rises inside read =
    let r = name_in_inverse (slice_range bytes pos stop) labels rest read in
    let here : Stands bytes pos (wire labels) =
    stands_front bytes pos (wire labels) rest (subst (λ xs. Stands bytes pos xs) r.whole (stands_part bytes pos stop rises inside)) in
    let again : name_at bytes pos ≡ Ok (labels, pos + length (wire labels)) = name_again labels bytes pos here r.good in
    let long : length (slice_range bytes pos stop) ≡ stop - pos =
    length-take-le (stop - pos) (drop pos bytes) (omega (arith, inside, length-drop pos bytes)) in
    record {
      told = rw again (ap (λ xs. Some (xs, pos + length (wire labels))) (sym (stands_range bytes pos (wire labels) here)));
      rises = omega arith;
      inside = omega (arith, ap length r.whole, long, length-append (wire labels) rest);
    }

-- one field more
pub field_more : (field : Field) (bytes : List ℕ) (at pos stop next : ℕ) → at ≤ pos → EndsAt field bytes pos stop next
    → IsAppended (field_at field bytes pos stop) (slice_range bytes at pos) (slice_range bytes at next) next
field_more field bytes at pos stop next rises ends = record {
  front = slice_range bytes pos next;
  told = ends.told;
  grown = two_ranges bytes at pos next rises ends.rises;
}

-- no field is left, nor a byte
pub all_stand : (bytes : List ℕ) (at pos stop : ℕ) (total : Option (List ℕ)) → (pos == stop) ≡ true
    → cond (pos == stop) (Some (slice_range bytes at pos)) None ≡ total → total ≡ Some (slice_range bytes at stop)
all_stand bytes at pos stop total same done =
    let is : pos ≡ stop = grind (arith, nat_tests, same) in
    let whole : cond (pos == stop) (Some (slice_range bytes at pos)) None ≡ Some (slice_range bytes at pos) = rw same refl in
    sym done ∙ whole ∙ ap (λ (k : ℕ). Some (slice_range bytes at k)) is
