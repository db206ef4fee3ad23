-- When what was kept of a set may serve it again (RFC 4035, 4.5, 4.7, 5.3.1 and 5.3.3).
use Rattle.std.specs.Prelude.{ℕ, Bool, true, false, ◌&&◌, List, [], Option, None, Some, is_some, slice_get, if◌then◌else◌}
use Rattle.std.specs.Option.{option_map_or}
use Rattle.dns_model.specs.Keys.{bytes_eq}
use Rattle.dns_model.specs.Records.{Rr, RrSet, Question}
use Rattle.dns_model.specs.Chains.{LinkValue, Judge, KeySet, Signed, justified, ends_at, last_link}
use Rattle.dns_model.specs.SoundAnswers.{ChainValue, PlacedSet, is_secure}
use Rattle.dns_rules.specs.MarkedSets.{MarkedSet, decider}
use Rattle.dns_rules.specs.CacheKeys.{key_of, key_eq}
use Rattle.dns_rules.specs.CacheEntries.{EntryValue, Found, mark_of, sig_of}

-- the last link names the signature that decided, or is a key set where none did
abbrev pub names_decider : Option LinkValue → Option Rr → Bool
names_decider (Some (KeySet owner class keys links)) None = true
names_decider (Some (Signed owner class rtype rdatas sig key_link key)) (Some r) = bytes_eq sig r.rdata
names_decider _ _ = false

-- a chain proves a judged set: it is justified, ends at the set and names the signature that decided
abbrev pub proves_set : Judge → MarkedSet → List LinkValue → Bool
proves_set j judged links = justified j links && (ends_at links judged.set && names_decider (last_link links) (decider judged))

-- the set, judged as was found before
abbrev pub judged_as : PlacedSet → Found → MarkedSet
judged_as placed found = record { section = placed.section; set = placed.set; mark = mark_of found; sig = sig_of found }

abbrev pub links_of : Option ChainValue → List LinkValue
links_of chain = option_map_or (λ c. c.links) chain []

-- the place of a signature that decided, where one did, is that of a signature of the set
abbrev pub has_place : RrSet → Option ℕ → Bool
has_place set place = option_map_or (λ n. is_some (slice_get set.signatures n)) place true

-- what an entry says holds of the set: where it says Secure, a signature that it names is one of the set's, and its chain proves the set
-- by this judge, its moment included
abbrev pub still_holds : Judge → PlacedSet → EntryValue → Bool
still_holds j placed kept =
    if is_secure (mark_of kept.found)
    then has_place placed.set (sig_of kept.found) && proves_set j (judged_as placed kept.found) (links_of kept.chain)
    else true

-- an entry may serve a set in the answer to a question: it was kept of the same set in such an answer, and holds of it
abbrev pub may_serve : Judge → Question → PlacedSet → EntryValue → Bool
may_serve j q placed kept = key_eq (key_of q placed.set) kept.key && still_holds j placed kept
