-- For private functions of this crate only: the mark of a DNSKEY set with its chain, as the outcome gives them.
use Rattle.std.specs.Prelude.{ℕ, ◌≡◌, true, false, List, [], map, Option, None, Some}
use Rattle.std.specs.Option.{option_map}
use Rattle.dns_model.specs.declared.proof.Proof.{Proof}
use Rattle.dns_model.specs.declared.proof.Proof.TheVariants as proof
use Rattle.dns_model.specs.Records.{Rr, RrSet}
use Rattle.dns_model.specs.Chains.{Judge, LinkValue}
use Rattle.dns_model.specs.SoundAnswers.{PlacedSet}
use Rattle.dns_evidence.specs.Link.{link_value}
use Rattle.dns_rules.specs.Delegations.{verdict_by_ds, zone_verdict}
use Rattle.dns_rules.specs.KeySets.{KeysOutcome, keys_outcome, outcome_mark, needs_ds}
use Rattle.dns_rules.specs.ChainedSets.{ChainedSet, bare, ds_chain, outcome_chain}
use Rattle.dns_trust.specs.Beside.{outcome_beside}
use Rattle.dns_trust.specs.declared.key_sets.KeysMarked.{KeysMarked}

-- a mark, the place of the signature that decided, and a chain
pub record MarkedValue : Type 0 where
  pub mark : Proof
  pub sig : Option ℕ
  pub chain : List LinkValue

abbrev pub marked_value : KeysMarked → MarkedValue
marked_value marked = record { mark = marked.mark; sig = marked.sig; chain = map link_value marked.chain.items }

-- those of an outcome, where `front` is the chain of the DS set
abbrev pub outcome_marked : Judge → RrSet → List LinkValue → KeysOutcome → MarkedValue
outcome_marked j set front outcome = record {
  mark = (outcome_mark outcome).mark;
  sig = (outcome_mark outcome).sig;
  chain = outcome_chain j set front outcome;
}

-- those that the records of the owner's DS set give, which is Secure by a chain
abbrev pub by_ds_records : Judge → RrSet → List LinkValue → List Rr → MarkedValue
by_ds_records j set front records =
    outcome_marked j set front (outcome_beside j set (Some (verdict_by_ds j.answers set.owner proof.Secure records)))

-- those that the answer to the ask for the owner's DS set gives
abbrev pub marked_by_zone : Judge → RrSet → Option (List ChainedSet) → MarkedValue
marked_by_zone j set answer =
    outcome_marked j set (ds_chain set.class set.owner answer)
    (outcome_beside j set (Some (zone_verdict j.answers set.class set.owner (option_map bare answer))))

-- those that the owner's DS set gives
abbrev pub marked_by_found : Judge → RrSet → ChainedSet → MarkedValue
marked_by_found j set found =
    outcome_marked j set found.chain
    (outcome_beside j set (Some (verdict_by_ds j.answers set.owner found.judged.mark found.judged.set.records)))

-- a placed set with them
abbrev pub chained_with : PlacedSet → MarkedValue → ChainedSet
chained_with placed marked = record {
  judged = record { section = placed.section; set = placed.set; mark = marked.mark; sig = marked.sig };
  chain = marked.chain;
}

-- what anchors decide, or that they don't
abbrev pub IsAnchorsMark : Judge → RrSet → Option KeysMarked → Type 0
IsAnchorsMark j set None = needs_ds j set ≡ true
IsAnchorsMark j set (Some marked) =
    (needs_ds j set ≡ false) × (marked_value marked ≡ outcome_marked j set [] (keys_outcome j set None))
