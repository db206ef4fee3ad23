-- What NSEC3 records show of a delegation they show of each equal name (RFC 5155, 5: hashes are of lower-cased names).
use Rattle.std.proofs.Common.{ℕ, ◌≡◌, ◌+◌, ◌-◌, Bool, true, false, not, ◌&&◌, List, [], ◌∷◌, length, drop, Option, None, Some, if◌then◌else◌, refl, sym, ap, ◌∙◌}
use Rattle.std.specs.Prelude.{nat_le, nat_eq}
use Rattle.std.specs.Cmp.Lexicographic.{pointwise}
use Rattle.std.specs.List.{ends_with, find, list_all}
use Rattle.std.specs.Option.{option_map}
use Rattle.std.proofs.lemmas.List.{length-map, drop-map}
use Rattle.dns_model.specs.Names.{Labels, lowered, folded, name_eq, at_or_above, strictly_above, last_labels, wire, parent}
use Rattle.dns_model.specs.Nsec3Hash.{iterated_hash}
use Rattle.dns_model.specs.Owned.{OwnedNsec3}
use Rattle.dns_model.proofs.NameLemmas.{name_eq-Decides}
use Rattle.dns_rules.specs.ListedTypes.{ends_zone}
use Rattle.dns_rules.specs.Nsec3Covering.{nsec3_matches, nsec3_covering}
use Rattle.dns_rules.specs.Nsec3Verdict.{Parameters, parameters_of, hashed, or_further, nearest_match, unless_ended, provable_encloser, covering_name, is_of_zone, is_covered_opt_out, may_be_unsigned, is_unsigned_at, is_unsigned_by, is_unsigned_in, shows_insecure_delegation}

-- ---- names whose lower-cased labels are the same

size_alike : (one two : Labels) → folded one ≡ folded two → length one ≡ length two
size_alike one two same = sym (length-map one lowered) ∙ ap length same ∙ length-map two lowered

hash_alike : (by : Parameters) (one two : Labels) → folded one ≡ folded two → hashed by one ≡ hashed by two
hash_alike by one two same = ap (λ (labels : Labels). iterated_hash by.salt (wire labels) by.iterations) same

above_alike : (zone one two : Labels) → folded one ≡ folded two → at_or_above zone one ≡ at_or_above zone two
above_alike zone one two same =
    ap (λ n. nat_le (length zone) n && ends_with (pointwise nat_eq) (folded one) (folded zone)) (size_alike one two same)
    ∙ ap (λ (labels : Labels). nat_le (length zone) (length two) && ends_with (pointwise nat_eq) labels (folded zone)) same

below_alike : (zone one two : Labels) → folded one ≡ folded two → strictly_above zone one ≡ strictly_above zone two
below_alike zone one two same =
    ap (λ b. b && not (name_eq zone one)) (above_alike zone one two same)
    ∙ ap (λ (labels : Labels). at_or_above zone two && not (pointwise (pointwise nat_eq) (folded zone) labels)) same

last_alike : (n : ℕ) (one two : Labels) → folded one ≡ folded two → folded (last_labels n one) ≡ folded (last_labels n two)
last_alike n one two same =
    sym (drop-map lowered (length one - n) one) ∙ ap (drop (length one - n)) same
    ∙ ap (λ k. drop (k - n) (folded two)) (size_alike one two same) ∙ drop-map lowered (length two - n) two

-- ---- the closest encloser

abbrev Match : Type 0
Match = Option (Labels × OwnedNsec3)

-- what is found, with the labels lower-cased
abbrev folded_match : Match → Match
folded_match found = option_map (λ p. (folded p.0, p.1)) found

nearer_alike : (one two : Labels) (o : Option OwnedNsec3) (p q : Match) → folded one ≡ folded two → folded_match p ≡ folded_match q
    → folded_match (or_further one o p) ≡ folded_match (or_further two o q)
nearer_alike one two None p q same further = further
nearer_alike one two (Some nsec3) p q same further = ap (λ (labels : Labels). Some (labels, nsec3)) same

within_alike : (b : Bool) (p q : Match) → folded_match p ≡ folded_match q
    → folded_match (if not b then None else p) ≡ folded_match (if not b then None else q)
within_alike true p q same = same
within_alike false p q same = refl

match_alike : (by : Parameters) (zone : Labels) (nsec3s : List OwnedNsec3) (one two : Labels) → folded one ≡ folded two
    → folded_match (nearest_match by zone nsec3s one) ≡ folded_match (nearest_match by zone nsec3s two)
unfolding nearest_match
match_alike by zone nsec3s [] [] same = refl
match_alike by zone nsec3s [] (m ∷ two) same = cc
match_alike by zone nsec3s (l ∷ one) [] same = cc
match_alike by zone nsec3s (l ∷ one) (m ∷ two) same =
    let rest : folded one ≡ folded two = cc in
    let found = λ (name : Labels). find (nsec3_matches (hashed by name)) nsec3s in
    let further = λ (name : Labels). nearest_match by zone nsec3s name in
    within_alike (at_or_above zone one) (or_further one (found one) (further one)) (or_further two (found one) (further two))
    (nearer_alike one two (found one) (further one) (further two) rest (match_alike by zone nsec3s one two rest))
    ∙ ap (λ b. folded_match (if not b then None else or_further two (found one) (further two))) (above_alike zone one two rest)
    ∙ ap (λ h. folded_match (if not (at_or_above zone two) then None else or_further two (find (nsec3_matches h) nsec3s) (further two)))
    (hash_alike by one two rest)

-- ---- an opt-out span over the next closer name

abbrev is_hidden : Parameters → List OwnedNsec3 → Labels → ℕ → Bool
is_hidden by nsec3s child n = is_covered_opt_out (covering_name by nsec3s (last_labels (n + 1) child))

abbrev hidden_by_match : Parameters → List OwnedNsec3 → Labels → Match → Bool
hidden_by_match by nsec3s child None = false
hidden_by_match by nsec3s child (Some found) = if ends_zone found.1.fields.types then false else is_hidden by nsec3s child (length found.0)

ended_step : (by : Parameters) (nsec3s : List OwnedNsec3) (child above : Labels) (b : Bool)
    → may_be_unsigned by nsec3s child (if b then None else Some above) ≡ (if b then false
    else is_hidden by nsec3s child (length (folded above)))
ended_step by nsec3s child above true = refl
ended_step by nsec3s child above false = ap (is_hidden by nsec3s child) (sym (length-map above lowered))

by_match : (by : Parameters) (nsec3s : List OwnedNsec3) (child : Labels) (found : Match)
    → may_be_unsigned by nsec3s child (unless_ended found) ≡ hidden_by_match by nsec3s child (folded_match found)
by_match by nsec3s child None = refl
by_match by nsec3s child (Some (above, nsec3)) = ended_step by nsec3s child above (ends_zone nsec3.fields.types)

child_alike : (by : Parameters) (nsec3s : List OwnedNsec3) (one two : Labels) (found : Match) → folded one ≡ folded two
    → hidden_by_match by nsec3s one found ≡ hidden_by_match by nsec3s two found
child_alike by nsec3s one two None same = refl
child_alike by nsec3s one two (Some found) same =
    let n = length found.0 + 1 in
    ap (λ h. if ends_zone found.1.fields.types then false else is_covered_opt_out (nsec3_covering h nsec3s))
    (hash_alike by (last_labels n one) (last_labels n two) (last_alike n one two same))

hidden_alike : (by : Parameters) (zone : Labels) (nsec3s : List OwnedNsec3) (one two : Labels) → folded one ≡ folded two
    → may_be_unsigned by nsec3s one (provable_encloser by zone nsec3s one)
    ≡ may_be_unsigned by nsec3s two (provable_encloser by zone nsec3s two)
hidden_alike by zone nsec3s one two same =
    by_match by nsec3s one (nearest_match by zone nsec3s one)
    ∙ ap (hidden_by_match by nsec3s one) (match_alike by zone nsec3s one two same)
    ∙ child_alike by nsec3s one two (folded_match (nearest_match by zone nsec3s two)) same
    ∙ sym (by_match by nsec3s two (nearest_match by zone nsec3s two))

-- ---- the delegation

at_alike : (by : Parameters) (zone : Labels) (nsec3s : List OwnedNsec3) (one two : Labels) (o : Option OwnedNsec3) → folded one ≡ folded two
    → is_unsigned_at by zone nsec3s one o ≡ is_unsigned_at by zone nsec3s two o
at_alike by zone nsec3s one two (Some nsec3) same = refl
at_alike by zone nsec3s one two None same = hidden_alike by zone nsec3s one two same

by_alike : (zone : Labels) (nsec3s : List OwnedNsec3) (one two : Labels) (o : Option Parameters) → folded one ≡ folded two
    → is_unsigned_by zone nsec3s one o ≡ is_unsigned_by zone nsec3s two o
by_alike zone nsec3s one two None same = refl
by_alike zone nsec3s one two (Some by) same =
    ap (λ h. is_unsigned_at by zone nsec3s one (find (nsec3_matches h) nsec3s)) (hash_alike by one two same)
    ∙ at_alike by zone nsec3s one two (find (nsec3_matches (hashed by two)) nsec3s) same

in_alike : (zone : Labels) (nsec3s : List OwnedNsec3) (one two : Labels) → folded one ≡ folded two
    → is_unsigned_in zone nsec3s one ≡ is_unsigned_in zone nsec3s two
in_alike zone nsec3s one two same =
    ap (λ b. b && (list_all (is_of_zone zone) nsec3s && is_unsigned_by zone nsec3s one (parameters_of nsec3s)))
    (below_alike zone one two same)
    ∙ ap (λ b. strictly_above zone two && (list_all (is_of_zone zone) nsec3s && b))
    (by_alike zone nsec3s one two (parameters_of nsec3s) same)

pub delegation_alike : (one two : Labels) (nsec3s : List OwnedNsec3) → name_eq one two ≡ true
    → shows_insecure_delegation one nsec3s ≡ shows_insecure_delegation two nsec3s
unfolding shows_insecure_delegation
delegation_alike one two [] same = refl
delegation_alike one two (first ∷ rest) same =
    in_alike (parent first.owner) (first ∷ rest) one two ((name_eq-Decides one two).0 same)
