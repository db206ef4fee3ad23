-- Where NSEC3 records show that a child's zone isn't signed, no signed delegation is at or above it in any zone in
-- which they are
-- true (RFC 5155, 8.9).
use Rattle.std.proofs.Common.{◌≡◌, ℕ, Bool, true, false, ◌&&◌, List, [], ◌∷◌, Option, None, Some, refl, sym, ap, ◌∙◌, true≢false, inl, inr}
use Rattle.std.specs.List.{find, list_all}
use Rattle.std.proofs.lemmas.Bool.{and_parts}
use Rattle.dns_model.specs.Names.{Labels, name_eq, at_or_above, strictly_above, parent}
use Rattle.dns_model.specs.Types.{type_ds}
use Rattle.dns_model.specs.Owned.{OwnedNsec3}
use Rattle.dns_model.proofs.NameLemmas.{name_equiv}
use Rattle.dns_model.proofs.AboveLemmas.{above_alike, below_alike, above_itself, strictly_parts, strictly_made}
use Rattle.dns_model.proofs.SetLemmas.{name_back}
use Rattle.dns_rules.specs.ListedTypes.{is_unsigned_cut}
use Rattle.dns_rules.specs.Nsec3Covering.{is_opt_out, nsec3_matches}
use Rattle.dns_rules.specs.Nsec3Verdict.{Parameters, parameters_of, is_of_zone, hashed, provable_encloser, next_closer, covering_name, is_covered_opt_out, may_be_unsigned, is_unsigned_at, is_unsigned_by, is_unsigned_in, shows_insecure_delegation}
use Rattle.dns_rules.specs.Zones.{Zone, has_set, is_delegation, exists_in, is_zone}
use Rattle.dns_rules.proofs.ZoneLemmas.{has_set_alike}
use Rattle.dns_hashed_denial.specs.HashedDenial.{IsShownByHashes, IsUnsignedByHashes, IsInsecureByHashes}
use Rattle.dns_hashed_denial.proofs.ExistingNames.{member_exists, owned, cut_owner, cut_ends, ends_alike, none_exists_below, unsigned_parts, light_has_no_ds}
use Rattle.dns_hashed_denial.proofs.TrueRecords.{IsListed, unsigned_listed}
use Rattle.dns_hashed_denial.proofs.BelowEnclosers.{closer_above, closer_inside, name_inside, end_is_closer}
use Rattle.dns_hashed_denial.proofs.HashedVerdicts.{IsHashedBy, hashed_by, apex_is, first_matched, IsCoveredIn, covered, IsProvedEncloser, toward_concerned, proved_encloser}
use Rattle.dns_hashed_denial.proofs.HashedPromises.{covered_missing, missing_has_no_ds}

strictly_alike : (one two name : Labels) → name_eq one two ≡ true → strictly_above two name ≡ true
    → strictly_above one name ≡ true
strictly_alike one two name same h =
    let parts = strictly_parts two name h in
    strictly_made one name (above_alike two one name (name_equiv.symm two one ∙ same) parts.0)
    (name_equiv.congr one two name same ∙ parts.1)

-- ---- a record at the child

-- a delegation at or above an unsigned one is that one
unsigned_cut_over : (zone : Zone) (child cut : Labels) → is_zone zone ≡ true → exists_in zone child ≡ true
    → has_set zone child type_ds ≡ false
    → is_delegation zone cut ≡ true → at_or_above cut child ≡ true → has_set zone cut type_ds ≡ false
unsigned_cut_over zone child cut formed there none is above = by (name_eq cut child) refl
  where
    by : (b : Bool) → name_eq cut child ≡ b → has_set zone cut type_ds ≡ false
    by true same = has_set_alike zone cut child type_ds same ∙ none
    by false apart =
        let o = owned zone cut (cut_owner zone cut is) in
        absurd (none_exists_below zone o.set child formed o.member (ends_alike zone o.set.owner cut o.same
        ∙ cut_ends zone cut is) there
        (strictly_alike o.set.owner cut child o.same (strictly_made cut child above apart)))

matched_child : (nsec3s : List OwnedNsec3) (child : Labels) (zone : Zone) (types : List ℕ) → is_zone zone ≡ true
    → strictly_above zone.apex child ≡ true → IsListed zone child types → is_unsigned_cut types ≡ true
    → IsUnsignedByHashes nsec3s child zone
matched_child nsec3s child zone types formed holds l h =
    let unsigned = unsigned_listed zone child types l holds h in
    let none = (unsigned_parts zone child unsigned).1 in
    record {
      holds = holds;
      shown = inl unsigned;
      ds = none;
      cuts = λ cut is above. unsigned_cut_over zone child cut formed l.there none is above;
    }

-- ---- an opt-out span

opted_out_child : (by : Parameters) (nsec3s : List OwnedNsec3) (child encloser : Labels) (zone : Zone)
    (nsec3 : OwnedNsec3) → is_zone zone ≡ true
    → strictly_above zone.apex child ≡ true → (p : IsProvedEncloser by zone nsec3s child encloser)
    → IsCoveredIn nsec3s zone (p.label ∷ encloser) nsec3 → is_opt_out nsec3 ≡ true
    → IsUnsignedByHashes nsec3s child zone
opted_out_child by nsec3s child encloser zone nsec3 formed holds p c flag =
    let e = p.enclosed in
    let inside = closer_inside zone child encloser p.label e in
    let below = closer_above zone child encloser p.label e in
    let gone = covered_missing nsec3s zone (p.label ∷ encloser) child nsec3 inside c below in
    record {
      holds = holds;
      shown = inr (record {
        below = record { covered = p.label ∷ encloser; inside = inside; below = below; opted_out = c.opted_out flag };
        missing = gone;
      });
      ds = missing_has_no_ds nsec3s zone child (name_inside zone child encloser p.label e) gone;
      cuts = λ cut is above.
          let o = owned zone cut (cut_owner zone cut is) in
          let ends = ends_alike zone o.set.owner cut o.same ∙ cut_ends zone cut is in
          let lower = end_is_closer zone child encloser p.label o.set formed e o.member ends
          (above_alike cut o.set.owner child (name_back o.set.owner cut o.same) above) in
          let there = member_exists zone o.set (p.label ∷ encloser) o.member inside lower in
          light_has_no_ds zone (p.label ∷ encloser) cut (c.light there).1
          (below_alike (p.label ∷ encloser) o.set.owner cut o.same lower);
    }

unmatched_child : (by : Parameters) (nsec3s : List OwnedNsec3) (child apex : Labels) (zone : Zone)
    (o : Option Labels) → IsHashedBy nsec3s child zone by
    → name_eq zone.apex apex ≡ true → strictly_above zone.apex child ≡ true → provable_encloser by apex nsec3s child ≡ o
    → may_be_unsigned by nsec3s child o ≡ true → IsUnsignedByHashes nsec3s child zone
unmatched_child by nsec3s child apex zone None s same holds e h = absurd (true≢false (sym h))
unmatched_child by nsec3s child apex zone (Some encloser) s same holds e h =
    to (covering_name by nsec3s (next_closer encloser child)) refl h
  where
    p : IsProvedEncloser by zone nsec3s child encloser
    p = proved_encloser by apex zone nsec3s child encloser s same e

    to : (o : Option OwnedNsec3) → covering_name by nsec3s (next_closer encloser child) ≡ o
        → is_covered_opt_out o ≡ true
        → IsUnsignedByHashes nsec3s child zone
    to None is flag = absurd (true≢false (sym flag))
    to (Some nsec3) is flag =
        opted_out_child by nsec3s child encloser zone nsec3 s.formed holds p
        (covered nsec3s child (p.label ∷ encloser) zone by nsec3 s (ap (covering_name by nsec3s) (sym p.closer) ∙ is)) flag

-- ---- each zone

child_by : (by : Parameters) (nsec3s : List OwnedNsec3) (child apex : Labels) (zone : Zone) (o : Option OwnedNsec3)
    → IsHashedBy nsec3s child zone by
    → name_eq zone.apex apex ≡ true → strictly_above zone.apex child ≡ true
    → find (nsec3_matches (hashed by child)) nsec3s ≡ o
    → is_unsigned_at by apex nsec3s child o ≡ true → IsUnsignedByHashes nsec3s child zone
child_by by nsec3s child apex zone None s same holds e h =
    unmatched_child by nsec3s child apex zone (provable_encloser by apex nsec3s child) s same holds refl h
child_by by nsec3s child apex zone (Some nsec3) s same holds e h =
    let concerned = toward_concerned zone child child (strictly_parts zone.apex child holds).0 (above_itself child) in
    matched_child nsec3s child zone nsec3.fields.types s.formed holds
    (first_matched nsec3s child child zone by nsec3 s concerned e) h

child_with : (nsec3s : List OwnedNsec3) (child apex : Labels) (zone : Zone) (o : Option Parameters)
    → IsShownByHashes nsec3s child zone
    → strictly_above apex child ≡ true → list_all (is_of_zone apex) nsec3s ≡ true → parameters_of nsec3s ≡ o
    → is_unsigned_by apex nsec3s child o ≡ true → IsUnsignedByHashes nsec3s child zone
child_with nsec3s child apex zone None shown above all e h = absurd (true≢false (sym h))
child_with nsec3s child apex zone (Some by) shown above all e h =
    let same = apex_is nsec3s child apex zone by shown e all in
    child_by by nsec3s child apex zone (find (nsec3_matches (hashed by child)) nsec3s)
    (hashed_by nsec3s child zone by shown e) same
    (strictly_alike zone.apex apex child same above) refl h

child_in : (nsec3s : List OwnedNsec3) (child apex : Labels) (zone : Zone) → IsShownByHashes nsec3s child zone
    → is_unsigned_in apex nsec3s child ≡ true
    → IsUnsignedByHashes nsec3s child zone
child_in nsec3s child apex zone shown h =
    let one = and_parts (strictly_above apex child)
    (list_all (is_of_zone apex) nsec3s && is_unsigned_by apex nsec3s child (parameters_of nsec3s)) h in
    let two = and_parts (list_all (is_of_zone apex) nsec3s)
    (is_unsigned_by apex nsec3s child (parameters_of nsec3s)) one.1 in
    child_with nsec3s child apex zone (parameters_of nsec3s) shown one.0 two.0 refl two.1

-- where the records show that a child isn't signed, it is so in each zone
pub insecure_holds : (child : Labels) (nsec3s : List OwnedNsec3) → shows_insecure_delegation child nsec3s ≡ true
    → IsInsecureByHashes child nsec3s
unfolding shows_insecure_delegation
insecure_holds child [] h = absurd (true≢false (sym h))
insecure_holds child (first ∷ rest) h = λ zone shown. child_in (first ∷ rest) child (parent first.owner) zone shown h
