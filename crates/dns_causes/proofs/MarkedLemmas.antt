-- Sets with the marks of their entries, one after another.
use Rattle.std.proofs.Common.{◌≡◌, List, [], ◌∷◌, ◌++◌, map, length, refl, sym, ap, ◌∙◌, append-nil, append_assoc}
use Rattle.std.proofs.lemmas.List.{nil_from_length}
use Rattle.dns_model.specs.SoundAnswers.{PlacedSet}
use Rattle.dns_model.specs.Trails.{JudgedSetValue}
use Rattle.dns_rules.specs.ChainedSets.{ChainedSet}
use Rattle.dns_rules.specs.Derivation.{with_entries}
use Rattle.dns_rules.specs.DerivationParts.{with_entry}
use Rattle.dns_flow.specs.Leads.{chainless}

-- the sets of these pairs, without chains
abbrev pub marked_by : List PlacedSet → List JudgedSetValue → List ChainedSet
marked_by placed entries = map chainless (with_entries placed entries)

entryless : (placed : List PlacedSet) → marked_by placed [] ≡ []
entryless [] = refl
entryless (p ∷ ps) = refl

module _ (done whole : List ChainedSet) where
  -- no set is left
  pub no_sets : (placed : List PlacedSet) (entries : List JudgedSetValue)
      → length placed ≡ 0 → done ++ marked_by placed entries ≡ whole → done ≡ whole
  no_sets placed entries none before =
      sym (append-nil done) ∙ sym (ap (λ ps. done ++ marked_by ps entries) (nil_from_length placed none)) ∙ before

  -- or no entry
  pub no_entries : (placed : List PlacedSet) (entries : List JudgedSetValue)
      → length entries ≡ 0 → done ++ marked_by placed entries ≡ whole → done ≡ whole
  no_entries placed entries none before =
      sym (append-nil done) ∙ sym (ap (λ xs. done ++ xs) (entryless placed))
      ∙ sym (ap (λ es. done ++ marked_by placed es) (nil_from_length entries none)) ∙ before

  -- one pair more
  pub one_more : (more : List ChainedSet) (placed rest : List PlacedSet) (entries others : List JudgedSetValue)
      (p : PlacedSet) (e : JudgedSetValue) (c : ChainedSet)
      → placed ≡ p ∷ rest → entries ≡ e ∷ others → c ≡ chainless (with_entry (p, e)) → more ≡ done ++ c ∷ []
      → done ++ marked_by placed entries ≡ whole → more ++ marked_by rest others ≡ whole
  one_more more placed rest entries others p e c sets cut is pushed before =
      ap (λ xs. xs ++ marked_by rest others) (pushed ∙ ap (λ x. done ++ x ∷ []) is)
      ∙ append_assoc done (chainless (with_entry (p, e)) ∷ []) (marked_by rest others)
      ∙ sym (ap (λ ps. done ++ marked_by ps entries) sets ∙ ap (λ es. done ++ marked_by (p ∷ rest) es) cut)
      ∙ before
