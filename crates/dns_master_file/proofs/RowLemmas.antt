-- A table of words, looked through from the front.
use Rattle.std.proofs.Common.{◌≡◌, ℕ, ◌+◌, ◌<◌, ◌≤◌, true, false, List, length, get_or, drop, map, None, Some, refl, ◌∙◌}
use Rattle.std.proofs.lemmas.List.{at_drop_more, at_drop_all}
use Rattle.dns_model.specs.Keys.{bytes_eq}
use Rattle.dns_record.specs.Words.{Row, own_number}

module _ {X : Type 0} (f : X → Row) (rows : List X) (i : ℕ) (d : X) where
  abbrev row : Row
  row = f (get_or rows i d)

  -- the row has the word
  pub number_here : (word : List ℕ) → i < length rows → bytes_eq row.1 word ≡ true
      → own_number (map f (drop i rows)) word ≡ Some row.0
  unfolding own_number
  number_here word within same = at_drop_more (λ rs. own_number (map f rs) word) rows i d within ∙ rw same refl

  -- the row has another word
  pub number_next : (word : List ℕ) → i < length rows → bytes_eq row.1 word ≡ false
      → own_number (map f (drop i rows)) word ≡ own_number (map f (drop (i + 1) rows)) word
  unfolding own_number
  number_next word within other = at_drop_more (λ rs. own_number (map f rs) word) rows i d within ∙ rw other refl

module _ {X : Type 0} (f : X → Row) (rows : List X) (i : ℕ) where
  -- no row is left
  pub number_end : (word : List ℕ) → length rows ≤ i → own_number (map f (drop i rows)) word ≡ None
  unfolding own_number
  number_end word over = at_drop_all (λ rs. own_number (map f rs) word) rows i over
