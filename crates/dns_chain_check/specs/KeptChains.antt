-- For private functions of this crate only: the chain that an entry has for a set, to be justified still (RFC 4035, 5.3.1 and 5.3.3).
use Rattle.std.specs.Prelude.{Bool, ◌&&◌, Option, None, Some, slice_get, if◌then◌else◌}
use Rattle.std.specs.Option.{option_and_then}
use Rattle.dns_model.specs.Records.{RrSet}
use Rattle.dns_model.specs.Chains.{ends_at, last_link}
use Rattle.dns_model.specs.SoundAnswers.{ChainValue}
use Rattle.dns_rules.specs.CacheEntries.{EntryValue, Found, sig_of}
use Rattle.dns_rules.specs.Serving.{has_place, names_decider}

-- a signature that was found to decide is one of the set's, and the chain ends at the set by it, or by none where none decided
abbrev pub fits : RrSet → Found → ChainValue → Bool
fits set found chain =
    has_place set (sig_of found)
    && (ends_at chain.links set
    && names_decider (last_link chain.links) (option_and_then (slice_get set.signatures) (sig_of found)))

abbrev pub fitting_chain : RrSet → EntryValue → Option ChainValue
fitting_chain set kept = option_and_then (λ chain. if fits set kept.found chain then Some chain else None) kept.chain
