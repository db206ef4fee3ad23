-- The last link of a chain.
use Rattle.std.proofs.Common.{◌≡◌, ◌-◌, List, map, length, Option, slice_get, sym, ap, ◌∙◌}
use Rattle.std.specs.Option.{option_map}
use Rattle.std.proofs.lemmas.List.{length-map}
use Rattle.std.proofs.lemmas.Option.{slice_get-map}
use Rattle.dns_model.specs.Chains.{last_link}
use Rattle.dns_model.proofs.ChainLemmas.{slice_get-last}
use Rattle.dns_evidence.specs.declared.link.Link.{Link}
use Rattle.dns_evidence.specs.Link.{link_value}

-- the last link, as a fact
pub last_value : (links : List Link) (o : Option Link) → o ≡ slice_get links (length links - 1)
    → last_link (map link_value links) ≡ option_map link_value o
last_value links o is =
    sym (slice_get-last (map link_value links))
    ∙ ap (λ n. slice_get (map link_value links) (n - 1)) (length-map links link_value)
    ∙ slice_get-map link_value links (length links - 1) ∙ ap (option_map link_value) (sym is)
