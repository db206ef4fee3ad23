-- Straight replies: one RRset, plainly signed, and nothing beside it (RFC 2181, 5; RFC 4035, 2.2 and 3.1).
use Rattle.std.specs.Prelude.{Bool, true, false, not, ◌==◌, ◌&&◌, ◌||◌, ℕ, List, [], ◌∷◌, length}
use Rattle.std.specs.Option.{option_map_or}
use Rattle.std.specs.List.{filter, list_any, list_all}
use Rattle.dns_model.specs.Names.{name_eq, num_labels}
use Rattle.dns_model.specs.Types.{type_dnskey, code_no_error}
use Rattle.dns_model.specs.Records.{Rr, RrSet, Question}
use Rattle.dns_model.specs.RecordViews.{rrsig_of}
use Rattle.dns_model.specs.Sections.{is_signature, sets_of}
use Rattle.dns_model.specs.Chains.{Judge, has_bytes, rdatas_of}
use Rattle.dns_model.specs.SoundAnswers.{Told}
use Rattle.dns_rules.specs.KeySets.{is_anchored_key}
use Rattle.dns_rules.specs.Unsigned.{is_empty}

-- a record of the name, the type and the class that are queried
abbrev pub is_queried : Question → Rr → Bool
is_queried q r = name_eq q.owner r.owner && ((r.rtype == q.rtype) && (r.class == q.class))

-- a signature over such records, at their name, that shows no wildcard: its Labels is the number of its owner's labels
-- (RFC 4034, 3.1.3)
abbrev pub is_plain_signature : Question → Rr → Bool
is_plain_signature q r =
    name_eq q.owner r.owner && ((r.class == q.class)
    && option_map_or (λ sig. (sig.covered == q.rtype) && (sig.labels == num_labels r.owner)) (rrsig_of r) false)

-- no two byte lists are the same
abbrev pub are_distinct : List (List ℕ) → Bool
are_distinct [] = true
are_distinct (x ∷ xs) = not (has_bytes xs x) && are_distinct xs

-- a key set each of whose keys is anchored
abbrev pub is_wholly_anchored : Judge → RrSet → Bool
is_wholly_anchored j set = (set.rtype == type_dnskey) && list_all (is_anchored_key j set) set.records

-- there is one signature; beside a wholly anchored key set there may be none
abbrev pub is_signed_once : Judge → List Rr → Bool
is_signed_once j answers =
    (length (filter is_signature answers) == 1)
    || (is_empty (filter is_signature answers) && list_all (is_wholly_anchored j) (sets_of answers))

-- the reply to a query is straight: its code is NoError, its answers are records that were queried, at least one and no two with the
-- same rdata, and their signature, and its other sections are empty
abbrev pub is_straight : Judge → Question → Told → Bool
is_straight j q told =
    (told.code == code_no_error) && (is_empty told.authorities && (is_empty told.additionals
    && (list_any (is_queried q) told.answers && (list_all (λ r. is_queried q r || is_plain_signature q r) told.answers
    && (are_distinct (rdatas_of (filter (is_queried q) told.answers)) && is_signed_once j told.answers)))))
