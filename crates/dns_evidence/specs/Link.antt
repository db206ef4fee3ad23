-- Links as the facts of a chain of trust.
use Rattle.dns_model.specs.Chains as chains
use Rattle.dns_model.specs.Chains.{LinkValue}
use Rattle.dns_evidence.specs.declared.link.Link.{Link}
use Rattle.dns_evidence.specs.declared.link.Link.TheVariants.{Anchored, Matched, KeySet, Signed}

-- a link says a fact, with numbers for its class and type
abbrev pub link_value : Link → LinkValue
link_value (Anchored owner class key) = chains.Anchored owner class.0 key
link_value (Matched owner class key ds_link ds) = chains.Matched owner class.0 key ds_link ds
link_value (KeySet owner class keys links) = chains.KeySet owner class.0 keys.items links.items
link_value (Signed owner class rtype rdatas sig key_link key) =
    chains.Signed owner class.0 rtype.0 rdatas.items sig key_link key
