-- The records of a section are marked one after the other.
use Rattle.std.proofs.Common.{◌≡◌, ℕ, ◌+◌, ◌<◌, ◌^◌, List, [], ◌∷◌, ◌++◌, length, take, drop, get_or, set, replicate, Option, None, Some, refl, sym, ap, ◌∙◌, subst, arith}
use Rattle.std.specs.List.{find}
use Rattle.std.proofs.lemmas.List.{append-nil, append_assoc, take_all, drop_all, set_at, get_or_at, take_more, drop_more, length-take-le, length-replicate, get_or-replicate}
use Rattle.std.proofs.lemmas.List.Sums.{count_by-le-length}
use Rattle.dns_model.specs.declared.section.Section.{Section}
use Rattle.dns_model.specs.Records.{Rr}
use Rattle.dns_model.specs.Sections.{covers}
use Rattle.dns_model.specs.SoundAnswers.{set_rtype}
use Rattle.dns_rules.specs.MarkedSets.{MarkedSet}
use Rattle.dns_rules.specs.Marking.{signature_place, is_about, marked, marked_section}
use Rattle.dns_rules.specs.MarkParts.{covered, marked_by}
use Rattle.dns_rules.proofs.AfterLemmas.{after-push, length-after}
use Rattle.dns_outcome.specs.declared.set_places.SetPlaces.{SetPlaces}
use Rattle.dns_outcome.specs.SetPlaces.{place_of, is_placed, ArePlacedIn}
use Rattle.dns_marking.specs.Counting.{count_at, counted, AreCounted}
use Rattle.dns_outcome.proofs.PlaceLemmas.{is_absent}
use Rattle.dns_marking.proofs.CountSteps.{length-counted, counted_more, count_is}

-- ---- one record

place_step : (p : SetPlaces) (now : ℕ) (section : Section) (sets : List MarkedSet) (counts : List ℕ) (met : List Rr) (x : Rr)
    (o : Option ℕ) → ArePlacedIn p section sets
    → AreCounted p sets counts met → place_of p x.owner (set_rtype x) ≡ o
    → marked_by now (count_at counts o) x (find (is_about section x) sets) ≡ marked_by now (signature_place met x) x
    (find (is_about section x) sets)
place_step p now section sets counts met x None are counts_are is =
    let missing = (is_absent (is_placed section x.owner (set_rtype x)) sets (sym (are.each x.owner (set_rtype x)) ∙ is)).missing in
    ap (marked_by now 0 x) missing ∙ sym (ap (marked_by now (signature_place met x) x) missing)
place_step p now section sets counts met x (Some n) are counts_are is =
    ap (λ k. marked_by now k x (find (is_about section x) sets)) (count_is p section sets counts met x n are counts_are is)

-- a record that is marked by the count of its set is marked by what stands before it
marked_by_count : (p : SetPlaces) (now : ℕ) (section : Section) (sets : List MarkedSet) (counts : List ℕ) (met : List Rr) (x y : Rr)
    → ArePlacedIn p section sets
    → AreCounted p sets counts met → y ≡ marked_by now (count_at counts (place_of p x.owner (set_rtype x))) x
    (find (is_about section x) sets)
    → y ≡ marked now sets section met x
unfolding marked
marked_by_count p now section sets counts met x y are counts_are made =
    made ∙ place_step p now section sets counts met x (place_of p x.owner (set_rtype x)) are counts_are refl

-- ---- the section with one more record marked

-- the record at the place of the loop, and the rest
pub record IsNext (now : ℕ) (section : Section) (sets : List MarkedSet) (xs ys : List Rr) (i : ℕ) (x : Rr) : Type 0 where
  pub more : take (i + 1) xs ≡ take i xs ++ x ∷ []
  pub written : (y : Rr) → set ys i y ≡ marked_section now sets section (take i xs) ++ y ∷ drop (i + 1) xs

pub next_is : (now : ℕ) (section : Section) (sets : List MarkedSet) (xs ys : List Rr) (i : ℕ) (x : Rr) → i < length xs
    → ys ≡ marked_section now sets section (take i xs) ++ drop i xs → x ≡ get_or ys i x → IsNext now section sets xs ys i x
next_is now section sets xs ys i x within before read =
    let zs = marked_section now sets section (take i xs) in
    let first = get_or xs i x in
    let rest = drop (i + 1) xs in
    let short : length zs ≡ i = length-after (marked now sets section) [] (take i xs) ∙ length-take-le i xs (omega arith) in
    let split : ys ≡ zs ++ first ∷ rest = before ∙ ap (λ ds. zs ++ ds) (drop_more xs i x within) in
    let same : x ≡ first = read ∙ ap (λ l. get_or l i x) split ∙ get_or_at zs first rest x i short in
    record {
      more = take_more xs i x within ∙ ap (λ z. take i xs ++ z ∷ []) (sym same);
      written = λ y. ap (λ l. set l i y) split ∙ set_at zs first rest y i short;
    }

pub section_more : (p : SetPlaces) (now : ℕ) (section : Section) (sets : List MarkedSet) (counts : List ℕ) (xs ys : List Rr)
    (i : ℕ) (x y : Rr) → ArePlacedIn p section sets
    → AreCounted p sets counts (take i xs) → IsNext now section sets xs ys i x
    → y ≡ marked_by now (count_at counts (place_of p x.owner (set_rtype x))) x (find (is_about section x) sets)
    → set ys i y ≡ marked_section now sets section (take (i + 1) xs) ++ drop (i + 1) xs
section_more p now section sets counts xs ys i x y are counts_are is made =
    let f = marked now sets section in
    let zs = marked_section now sets section (take i xs) in
    let rest = drop (i + 1) xs in
    is.written y ∙ ap (λ z. zs ++ z ∷ rest) (marked_by_count p now section sets counts (take i xs) x y are counts_are made)
    ∙ sym (append_assoc zs (f (take i xs) x ∷ []) rest)
    ∙ ap (λ l. l ++ rest) (sym (after-push f [] (take i xs) x) ∙ ap (marked_section now sets section) (sym is.more))

pub counts_more : (p : SetPlaces) (now : ℕ) (section : Section) (sets : List MarkedSet) (counts after : List ℕ)
    (xs ys : List Rr) (i : ℕ) (x : Rr)
    → AreCounted p sets counts (take i xs) → IsNext now section sets xs ys i x → after ≡ counted counts (place_of p x.owner (set_rtype x)) x
    → AreCounted p sets after (take (i + 1) xs)
counts_more p now section sets counts after xs ys i x counts_are is made =
    subst (λ l. AreCounted p sets after l) (sym is.more)
    (subst (λ l. AreCounted p sets l (take i xs ++ x ∷ [])) (sym made) (counted_more p sets counts (take i xs) x counts_are))

-- ---- the counts

-- before the first record nothing was met
pub none_counted : (p : SetPlaces) (sets : List MarkedSet) (counts : List ℕ) (n : ℕ) → n ≡ length sets → counts ≡ replicate n 0
    → AreCounted p sets counts []
none_counted p sets counts n long is = record {
  long = ap length is ∙ length-replicate n 0 ∙ long;
  each = λ k within. ap (λ l. get_or l k 0) is ∙ get_or-replicate n k 0 0 (subst (λ m. k < m) (sym long) within);
}

-- counts that were lent whole are written back whole
pub counts_back : (n : ℕ) (counts given written : List ℕ) (o : Option ℕ) (x : Rr) → n ≡ length counts → given ≡ counts
    → written ≡ counted given o x
    → take n (written ++ drop (length written) counts) ≡ counted counts o x
counts_back n counts given written o x long lent made =
    let same : written ≡ counted counts o x = made ∙ ap (λ l. counted l o x) lent in
    let length_is : length written ≡ length counts = ap length same ∙ length-counted counts x o in
    ap (λ l. take n (written ++ l)) (drop_all (length written) counts (omega (arith, length_is)))
    ∙ ap (take n) (append-nil written) ∙ take_all n written (omega (arith, long, length_is)) ∙ same

few_step : (p : SetPlaces) (section : Section) (sets : List MarkedSet) (counts : List ℕ) (xs : List Rr) (i : ℕ) (x : Rr) (o : Option ℕ)
    → ArePlacedIn p section sets
    → AreCounted p sets counts (take i xs) → place_of p x.owner (set_rtype x) ≡ o → i < length xs → length xs < 2 ^ 63
    → count_at counts o < 2 ^ 63
few_step p section sets counts xs i x None are counts_are is within long = omega arith
few_step p section sets counts xs i x (Some n) are counts_are is within long =
    let count = count_is p section sets counts (take i xs) x n are counts_are is in
    let most = count_by-le-length (covers (covered x)) (take i xs) in
    let short = length-take-le i xs (omega arith) in
    omega (arith, count, most, short)

-- a count is no more than the records before
pub few : (p : SetPlaces) (section : Section) (sets : List MarkedSet) (counts : List ℕ) (xs : List Rr) (i : ℕ) (x : Rr)
    → ArePlacedIn p section sets
    → AreCounted p sets counts (take i xs) → i < length xs → length xs < 2 ^ 63
    → count_at counts (place_of p x.owner (set_rtype x)) < 2 ^ 63
few p section sets counts xs i x are counts_are within long =
    few_step p section sets counts xs i x (place_of p x.owner (set_rtype x)) are counts_are refl within long
