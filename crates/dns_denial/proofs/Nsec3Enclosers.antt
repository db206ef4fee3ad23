-- The closest encloser sought upwards, the next closer name below it, and the wildcard there (RFC 5155, 1.3 and 8.3).
use Rattle.std.proofs.Common.{◌≡◌, ℕ, ◌+◌, ◌-◌, true, false, List, [], ◌∷◌, length, drop, None, Some, refl, sym, ap, ◌∙◌, arith, length-drop}
use Rattle.std.specs.List.{find}
use Rattle.std.proofs.lemmas.Slice.Eq.{bytes_eq-Decides}
use Rattle.dns_model.specs.Names.{Label, Labels, at_or_above, is_name, is_wildcard, asterisk, last_labels, parent}
use Rattle.dns_model.specs.Owned.{OwnedNsec3}
use Rattle.dns_model.proofs.LabelSteps.{parent-drop, is_name-above}
use Rattle.dns_model.proofs.WildcardLemmas.{star_fits}
use Rattle.dns_rules.specs.Nsec3Covering.{nsec3_matches}
use Rattle.dns_rules.specs.Nsec3Verdict.{Parameters, hashed, nearest_match}
use Rattle.dns_denial.specs.Enclosers.{IsEncloserOf}

-- ---- one name more

pub match_of_root : (by : Parameters) (zone : Labels) (nsec3s : List OwnedNsec3)
    → nearest_match by zone nsec3s [] ≡ None
unfolding nearest_match
match_of_root by zone nsec3s = refl

pub match_outside : (by : Parameters) (zone : Labels) (nsec3s : List OwnedNsec3) (label : Label) (above : Labels)
    → at_or_above zone above ≡ false
    → nearest_match by zone nsec3s (label ∷ above) ≡ None
unfolding nearest_match
match_outside by zone nsec3s label above h = rw h refl

pub match_here : (by : Parameters) (zone : Labels) (nsec3s : List OwnedNsec3) (label : Label) (above : Labels)
    (nsec3 : OwnedNsec3) → at_or_above zone above ≡ true
    → find (nsec3_matches (hashed by above)) nsec3s ≡ Some nsec3
    → nearest_match by zone nsec3s (label ∷ above) ≡ Some (above, nsec3)
unfolding nearest_match
match_here by zone nsec3s label above nsec3 h found = rw (h, found) refl

pub match_further : (by : Parameters) (zone : Labels) (nsec3s : List OwnedNsec3) (label : Label) (above : Labels)
    → at_or_above zone above ≡ true
    → find (nsec3_matches (hashed by above)) nsec3s ≡ None
    → nearest_match by zone nsec3s (label ∷ above) ≡ nearest_match by zone nsec3s above
unfolding nearest_match
match_further by zone nsec3s label above h none = rw (h, none) refl

-- ---- the name from which on it is sought

-- what is left of a name: its last labels, a name with this hash, above which what is sought of the name is
pub record IsLeft (by : Parameters) (zone : Labels) (nsec3s : List OwnedNsec3) (name left : Labels)
    (given : List ℕ) : Type 0 where
  pub same : nearest_match by zone nsec3s left ≡ nearest_match by zone nsec3s name
  pub last : left ≡ last_labels (length left) name
  pub hash : given ≡ hashed by left
  pub is_name : is_name left ≡ true

pub left_first : (by : Parameters) (zone : Labels) (nsec3s : List OwnedNsec3) (name : Labels) (hash : List ℕ)
    → hash ≡ hashed by name → is_name name ≡ true
    → IsLeft by zone nsec3s name name hash
left_first by zone nsec3s name hash h good =
    let none : length name - length name ≡ 0 = omega arith in
    record { same = refl; last = sym (ap (λ k. drop k name) none); hash = h; is_name = good }

last_above : (name : Labels) (label : Label) (above : Labels)
    → label ∷ above ≡ last_labels (length (label ∷ above)) name → above ≡ last_labels (length above) name
last_above name label above is =
    let k : ℕ = length name - length (label ∷ above) in
    let size : length (label ∷ above) ≡ length name - k = ap length is ∙ length-drop k name in
    let step : k + 1 ≡ length name - length above = omega (arith, size) in
    ap parent is ∙ parent-drop name k ∙ ap (λ n. drop n name) step

pub left_more : (by : Parameters) (zone : Labels) (nsec3s : List OwnedNsec3) (name left : Labels) (label : Label)
    (above : Labels) (hash higher : List ℕ)
    → IsLeft by zone nsec3s name left hash → left ≡ label ∷ above → at_or_above zone above ≡ true
    → find (nsec3_matches (hashed by above)) nsec3s ≡ None
    → higher ≡ hashed by above → IsLeft by zone nsec3s name above higher
left_more by zone nsec3s name left label above hash higher is split h none e =
    let last : label ∷ above ≡ last_labels (length (label ∷ above)) name = sym split ∙ is.last
    ∙ ap (λ (l : Labels). last_labels (length l) name) split in
    record {
      same = sym (match_further by zone nsec3s label above h none)
          ∙ ap (nearest_match by zone nsec3s) (sym split) ∙ is.same;
      last = last_above name label above last;
      hash = e;
      is_name = is_name-above label above (ap is_name (sym split) ∙ is.is_name);
    }

-- ---- the encloser that is found

pub encloser_of : (by : Parameters) (zone : Labels) (nsec3s : List OwnedNsec3) (name left : Labels)
    (label : Label) (above : Labels) (hash : List ℕ)
    → IsLeft by zone nsec3s name left hash → left ≡ label ∷ above
    → IsEncloserOf by name (record { name = above; next_closer = left; hash = hash })
encloser_of by zone nsec3s name left label above hash is split =
    let size : length left ≡ length above + 1 = omega (arith, ap length split) in
    record {
      closer = is.last ∙ ap (λ n. last_labels n name) size;
      hashed = record {
        hash = is.hash;
        wildcard = λ h.
            let same = bytes_eq-Decides label asterisk in
            split ∙ ap (λ (l : Label). l ∷ above) (same.0 (sym (ap is_wildcard split) ∙ h));
        is_name = star_fits label above (ap is_name (sym split) ∙ is.is_name);
      };
    }
