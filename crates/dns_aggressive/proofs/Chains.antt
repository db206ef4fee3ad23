-- The chains of an authority section, as one more is added.
use Rattle.std.proofs.Common.{◌≡◌, ℕ, ◌-◌, length, map, slice_get, Bool, true, false, cond, ◌&&◌, ◌==◌, List, ◌∷◌, Option, None, Some, refl, sym, ap, ◌∙◌}
use Rattle.std.specs.Option.{option_map, option_map_or}
use Rattle.std.specs.Borrow.{Bor}
use Rattle.std.specs.Cmp.{IsTotalOrder, eq_by_cmp_equiv, nat_cmp_total, on_total, then_total}
use Rattle.std.specs.Ordering.{is_eq, nat_cmp, ordering_then}
use Rattle.std.specs.declared.cmp.Ordering.{Ordering}
use Rattle.std.specs.BTreeMap as tree
use Rattle.std.proofs.lemmas.List.{length-map}
use Rattle.std.proofs.lemmas.Option.{slice_get-map}
use Rattle.dns_model.proofs.ChainLemmas.{slice_get-last}
use Rattle.dns_evidence.specs.declared.link.Link.{Link}
use Rattle.dns_evidence.specs.Link.{link_value}
use Rattle.dns_model.specs.declared.section.Section.TheVariants.{Authority}
use Rattle.dns_model.specs.Names.{Labels, name_cmp, name_eq}
use Rattle.dns_model.specs.Chains.{LinkValue, Anchored, Matched, KeySet, Signed, last_link}
use Rattle.dns_model.specs.SoundAnswers.{ChainValue, chain_is_of, link_is_of, section_eq}
use Rattle.dns_model.proofs.OrderLemmas.{name_ties, name_total, nat_ties}
use Rattle.dns_aggressive.specs.declared.chain_index.ChainIndex.{ChainIndex}
use Rattle.dns_aggressive.specs.Chains.{AreIndexed, chain_at, set_at_end, set_cmp, set_of_link, with_chain}
use Rattle.dns_aggressive.proofs.Places.{both_tie}

abbrev Set : Type 0
Set = Labels × ℕ

abbrev sets_cmp : Set → Set → Ordering
sets_cmp a b = ordering_then (name_cmp a.0 b.0) (nat_cmp a.1 b.1)

sets_total : IsTotalOrder sets_cmp
sets_total = then_total (on_total (λ s. s.0) name_total) (on_total (λ s. s.1) nat_cmp_total)

sets_tie : (a b : Set) → (name_eq a.0 b.0 && (a.1 == b.1)) ≡ is_eq (sets_cmp a b)
sets_tie a b = both_tie _ _ _ _ (name_ties a.0 b.0) (nat_ties a.1 b.1)

sets_turned : (a b : Set) → is_eq (sets_cmp a b) ≡ (name_eq b.0 a.0 && (b.1 == a.1))
sets_turned a b = (eq_by_cmp_equiv sets_total).symm a b ∙ sym (sets_tie b a)

abbrev is_set : Labels → ℕ → Option Set → Bool
is_set owner rtype set = option_map_or (λ s. name_eq owner s.0 && (rtype == s.1)) set false

link_set : (owner : Labels) (rtype : ℕ) (link : Option LinkValue)
    → link_is_of owner rtype link ≡ is_set owner rtype (set_of_link link)
link_set owner rtype None = refl
link_set owner rtype (Some (Anchored o c k)) = refl
link_set owner rtype (Some (Matched o c k l d)) = refl
link_set owner rtype (Some (KeySet o c ks ls)) = refl
link_set owner rtype (Some (Signed o c k rs s l key)) = refl

ended_step : (b : Bool) (owner : Labels) (rtype : ℕ) (link : Option LinkValue)
    → (b && link_is_of owner rtype link) ≡ is_set owner rtype (cond b (set_of_link link) None)
ended_step true owner rtype link = link_set owner rtype link
ended_step false owner rtype link = refl

-- a chain is for the set at its end
chain_set : (owner : Labels) (rtype : ℕ) (chain : ChainValue)
    → chain_is_of Authority owner rtype chain ≡ is_set owner rtype (set_at_end chain)
chain_set owner rtype chain = ended_step (section_eq Authority chain.section) owner rtype (last_link chain.links)

-- a chain that is for no set changes nothing
pub chain_passed : (chain : ChainValue) (others : Labels → ℕ → Option ChainValue) → None ≡ set_at_end chain
    → (owner : Labels) (rtype : ℕ) → others owner rtype ≡ with_chain chain others owner rtype
chain_passed chain others none owner rtype =
    sym (ap (λ b. cond b (Some chain) (others owner rtype))
    (chain_set owner rtype chain ∙ ap (is_set owner rtype) (sym none)))

some_cond : {X Y : Type 0} (f : X → Y) (b : Bool) (x : X) (o : Option X)
    → option_map f (cond b (Some x) o) ≡ cond b (Some (f x)) (option_map f o)
some_cond f true x o = refl
some_cond f false x o = refl

-- the chain of a set, added before the others
pub chain_added : (old new : ChainIndex) (key : Bor Labels × ℕ) (chain : Bor ChainValue)
    → Some (key.0.now, key.1) ≡ set_at_end chain.now
    → tree.Updates (λ x y. ordering_then (name_cmp x.0.now y.0.now) (nat_cmp x.1 y.1)) old.chains new.chains key
    (Some chain)
    → (owner : Labels) (rtype : ℕ) → chain_at new owner rtype ≡ with_chain chain.now (chain_at old) owner rtype
chain_added old new key chain is updates owner rtype =
    let q : Bor Labels × ℕ = (record { ref_ptr = (0, 0); now = owner }, rtype) in
    let here = is_eq (sets_cmp (key.0.now, key.1) (owner, rtype)) in
    ap (option_map (λ c. c.now)) (updates.0 q)
    ∙ some_cond (λ c. c.now) here chain (tree.get_by (set_cmp (owner, rtype)) old.chains)
    ∙ ap (λ b. cond b (Some chain.now) (chain_at old owner rtype))
    (sets_turned (key.0.now, key.1) (owner, rtype) ∙ ap (is_set owner rtype) is ∙ sym (chain_set owner rtype chain.now))

-- the chains from the last on
pub indexed_more : (old new : ChainIndex) (chain : ChainValue) (others : List ChainValue) → AreIndexed old others
    → ((owner : Labels) (rtype : ℕ) → chain_at new owner rtype ≡ with_chain chain (chain_at old) owner rtype)
    → AreIndexed new (chain ∷ others)
indexed_more old new chain others h added = record {
  each = λ owner rtype. added owner rtype
      ∙ ap (cond (chain_is_of Authority owner rtype chain) (Some chain)) (h.each owner rtype);
}

-- the last link, as a fact
pub last_value : (links : List Link) (o : Option Link) → o ≡ slice_get links (length links - 1)
    → option_map link_value o ≡ last_link (map link_value links)
last_value links o is =
    ap (option_map link_value) is ∙ sym (slice_get-map link_value links (length links - 1))
    ∙ sym (ap (λ n. slice_get (map link_value links) (n - 1)) (length-map links link_value))
    ∙ slice_get-last (map link_value links)
