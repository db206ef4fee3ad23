-- Which names are at or above others: what is above one, and what is below equal ones.
use Rattle.std.proofs.Common.{◌≡◌, ◌+◌, ◌-◌, ◌≤◌, Bool, true, false, not, ◌&&◌, [], ◌∷◌, ◌++◌, length, take, drop, refl, sym, ap, ◌∙◌, arith, true≢false, append_assoc, append-nil, ◌⊎◌, inl, inr, length-append}
use Rattle.std.specs.Prelude.{nat_le, nat_eq}
use Rattle.std.specs.Cmp.Lexicographic.{pointwise}
use Rattle.std.specs.List.{ends_with}
use Rattle.std.proofs.lemmas.Bool.{and_parts, not-true, not-false}
use Rattle.std.proofs.lemmas.Bool.Decides.{nat_tests}
use Rattle.std.proofs.lemmas.List.{length-map, take-append-drop, drop-map, drop_at}
use Rattle.dns_model.specs.Names.{Label, Labels, lowered, folded, name_eq, at_or_above, strictly_above}
use Rattle.dns_model.proofs.LabelSteps.{at_or_above-shorter}
use Rattle.dns_model.proofs.NameLemmas.{name_eq-Decides}

-- the last labels of a name
pub record Ends (last name : Labels) : Type 0 where
  pub front : Labels
  pub whole : name ≡ front ++ last

-- the last labels of the name are those of the one above it
pub record IsBelow (above name : Labels) : Type 0 where
  pub front : Labels
  pub whole : folded name ≡ front ++ folded above

pub below_parts : (above name : Labels) → at_or_above above name ≡ true → IsBelow above name
below_parts above name h =
    let parts = and_parts (nat_le (length above) (length name)) (ends_with (pointwise nat_eq) (folded name) (folded above)) h in
    let short : length above ≤ length name = grind (arith, nat_tests, parts.0) in
    let k = length name - length above in
    let same : folded above ≡ folded (drop k name) =
    (name_eq-Decides above (drop k name)).0 (sym (at_or_above-shorter above name short) ∙ h) in
    record {
      front = take k (folded name);
      whole = sym (take-append-drop k (folded name))
          ∙ ap (λ (back : Labels). take k (folded name) ++ back) (drop-map lowered k name ∙ sym same);
    }

pub below_made : (above name : Labels) → IsBelow above name → at_or_above above name ≡ true
below_made above name i =
    let long : length name ≡ length i.front + length above =
    omega (arith, ap length i.whole, length-append i.front (folded above), length-map name lowered, length-map above lowered) in
    let k = length name - length above in
    let cut : length i.front ≡ k = omega arith in
    let same : folded (drop k name) ≡ folded above =
    sym (drop-map lowered k name) ∙ ap (drop k) i.whole ∙ drop_at i.front (folded above) k cut in
    at_or_above-shorter above name (omega arith) ∙ (name_eq-Decides above (drop k name)).1 (sym same)

alike_below : (one two name : Labels) → folded one ≡ folded two → IsBelow one name → IsBelow two name
alike_below one two name same i = record { front = i.front; whole = i.whole ∙ ap (λ (back : Labels). i.front ++ back) same }

-- equal names have the same names below them
pub above_alike : (one two name : Labels) → name_eq one two ≡ true → at_or_above one name ≡ true → at_or_above two name ≡ true
above_alike one two name same h = below_made two name (alike_below one two name ((name_eq-Decides one two).0 same) (below_parts one name h))

below_alike_parts : (above one two : Labels) → folded one ≡ folded two → IsBelow above one → IsBelow above two
below_alike_parts above one two same i = record { front = i.front; whole = sym same ∙ i.whole }

-- equal names have the same names above them
pub below_alike : (above one two : Labels) → name_eq one two ≡ true → at_or_above above one ≡ true → at_or_above above two ≡ true
below_alike above one two same h =
    below_made above two (below_alike_parts above one two ((name_eq-Decides one two).0 same) (below_parts above one h))

pub above_itself : (name : Labels) → at_or_above name name ≡ true
above_itself name = below_made name name (record { front = []; whole = refl })

-- the root is above each name
pub root_above : (name : Labels) → at_or_above [] name ≡ true
root_above name = below_made [] name (record { front = folded name; whole = sym (append-nil (folded name)) })

pub above_trans : (one two three : Labels) → at_or_above one two ≡ true → at_or_above two three ≡ true → at_or_above one three ≡ true
above_trans one two three h k =
    let i = below_parts one two h in
    let j = below_parts two three k in
    below_made one three (record {
      front = j.front ++ i.front;
      whole = j.whole ∙ ap (λ (back : Labels). j.front ++ back) i.whole ∙ sym (append_assoc j.front i.front (folded one));
    })

pub above_is_shorter : (above name : Labels) → at_or_above above name ≡ true → length above ≤ length name
above_is_shorter above name h =
    let parts = and_parts (nat_le (length above) (length name)) (ends_with (pointwise nat_eq) (folded name) (folded above)) h in
    grind (arith, nat_tests, parts.0)

-- a name above a longer one is above what stands after the first label
tail_parts : (front above : Labels) (label : Label) (name : Labels) → folded (label ∷ name) ≡ front ++ folded above
    → (name_eq above (label ∷ name) ≡ true) ⊎ (at_or_above above name ≡ true)
tail_parts [] above label name whole = inl ((name_eq-Decides above (label ∷ name)).1 (sym whole))
tail_parts (first ∷ front) above label name whole =
    let same : folded name ≡ front ++ folded above = cc in
    inr (below_made above name (record { front = front; whole = same }))

pub above_tail : (above : Labels) (label : Label) (name : Labels) → at_or_above above (label ∷ name) ≡ true
    → (name_eq above (label ∷ name) ≡ true) ⊎ (at_or_above above name ≡ true)
above_tail above label name h = let i = below_parts above (label ∷ name) h in tail_parts i.front above label name i.whole

pub above_one_more : (above : Labels) (label : Label) (name : Labels) → at_or_above above name ≡ true
    → at_or_above above (label ∷ name) ≡ true
above_one_more above label name h =
    let i = below_parts above name h in
    below_made above (label ∷ name) (record {
      front = lowered label ∷ i.front;
      whole = ap (λ (back : Labels). lowered label ∷ back) i.whole;
    })

-- two lists that end one list, the shorter first
nested : (front back other more : Labels) → front ++ back ≡ other ++ more → length back ≤ length more → Ends back more
nested front back [] more e h = record { front = front; whole = sym e }
nested [] back (x ∷ other) more e h = absurd (omega (arith, ap length e, length-append other more))
nested (y ∷ front) back (x ∷ other) more e h =
    let rest : front ++ back ≡ other ++ more = cc in
    nested front back other more rest h

-- of two names above one the shorter is above the longer
pub above_nested : (one two name : Labels) → at_or_above one name ≡ true → at_or_above two name ≡ true → length one ≤ length two
    → at_or_above one two ≡ true
above_nested one two name h k short =
    let i = below_parts one name h in
    let j = below_parts two name k in
    let fits : length (folded one) ≤ length (folded two) = omega (arith, length-map one lowered, length-map two lowered) in
    let n = nested i.front (folded one) j.front (folded two) (sym i.whole ∙ j.whole) fits in
    below_made one two (record { front = n.front; whole = n.whole })

pub strictly_parts : (above name : Labels) → strictly_above above name ≡ true
    → (at_or_above above name ≡ true) × (name_eq above name ≡ false)
strictly_parts above name h =
    let parts = and_parts (at_or_above above name) (not (name_eq above name)) h in
    (parts.0, not-true (name_eq above name) parts.1)

pub strictly_made : (above name : Labels) → at_or_above above name ≡ true → name_eq above name ≡ false → strictly_above above name ≡ true
strictly_made above name h k = rw (h, k) refl

and_rest : (a b : Bool) → a ≡ true → (a && b) ≡ false → b ≡ false
and_rest true b h k = k
and_rest false b h k = absurd (true≢false (sym h))

-- above, and not strictly: the same name
pub alike_if_not_strictly : (above name : Labels) → at_or_above above name ≡ true → strictly_above above name ≡ false
    → name_eq above name ≡ true
alike_if_not_strictly above name h k = not-false (name_eq above name) (and_rest (at_or_above above name) (not (name_eq above name)) h k)
