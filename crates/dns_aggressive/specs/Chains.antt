-- For private functions alone: the chains of an authority section by the owner and type of their sets.
use Rattle.std.specs.Prelude.{◌≡◌, ℕ, List, Option, None, Some, option_map, if◌then◌else◌}
use Rattle.std.specs.Borrow.{Bor}
use Rattle.std.specs.List.{find}
use Rattle.std.specs.Ordering.{nat_cmp, ordering_then}
use Rattle.std.specs.BTreeMap as tree
use Rattle.std.specs.declared.cmp.Ordering.{Ordering}
use Rattle.dns_model.specs.declared.section.Section.TheVariants.{Authority}
use Rattle.dns_model.specs.Names.{Labels, name_cmp}
use Rattle.dns_model.specs.Types.{type_dnskey}
use Rattle.dns_model.specs.Chains.{LinkValue, KeySet, Signed, last_link}
use Rattle.dns_model.specs.SoundAnswers.{ChainValue, section_eq, chain_is_of}
use Rattle.dns_aggressive.specs.declared.chain_index.ChainIndex.{ChainIndex}

abbrev pub set_of_link : Option LinkValue → Option (Labels × ℕ)
set_of_link (Some (KeySet owner class keys links)) = Some (owner, type_dnskey)
set_of_link (Some (Signed owner class rtype rdatas sig key_link key)) = Some (owner, rtype)
set_of_link _ = None

-- the owner and type of the set at the end of a chain of the authority section
abbrev pub set_at_end : ChainValue → Option (Labels × ℕ)
set_at_end chain = if section_eq Authority chain.section then set_of_link (last_link chain.links) else None

-- owners and types in order
abbrev pub set_cmp : Labels × ℕ → Bor Labels × ℕ → Ordering
set_cmp set key = ordering_then (name_cmp set.0 key.0.now) (nat_cmp set.1 key.1)

-- the chain that the index has for an owner and type
abbrev pub chain_at : ChainIndex → Labels → ℕ → Option ChainValue
chain_at index owner rtype = option_map (λ chain. chain.now) (tree.get_by (set_cmp (owner, rtype)) index.chains)

-- one chain more, before the others
abbrev pub with_chain : ChainValue → (Labels → ℕ → Option ChainValue) → Labels → ℕ → Option ChainValue
with_chain chain others owner rtype = if chain_is_of Authority owner rtype chain then Some chain else others owner rtype

-- for each owner and type it has the first chain
pub record AreIndexed (index : ChainIndex) (chains : List ChainValue) : Type 0 where
  pub each : (owner : Labels) (rtype : ℕ) → chain_at index owner rtype ≡ find (chain_is_of Authority owner rtype) chains
