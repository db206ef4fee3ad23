-- The records of an answer with their marks (RFC 4035, 4.3 and 5.3.3).
use Rattle.std.specs.Prelude.{ℕ, Bool, false, not, ◌==◌, ◌&&◌, min, List, [], ◌∷◌, ◌++◌, map, count_by, slice_get, if◌then◌else◌}
use Rattle.std.specs.Option.{option_map_or}
use Rattle.std.specs.List.{find}
use Rattle.dns_model.specs.declared.proof.Proof.TheVariants.{Indeterminate}
use Rattle.dns_model.specs.declared.section.Section.{Section}
use Rattle.dns_model.specs.declared.section.Section.TheVariants.{Answer, Authority, Additional}
use Rattle.dns_model.specs.Names.{name_eq}
use Rattle.dns_model.specs.Records.{Rr, MessageValue}
use Rattle.dns_model.specs.RecordViews.{rrsig_of}
use Rattle.dns_model.specs.Sections.{is_signature, covers}
use Rattle.dns_model.specs.SoundAnswers.{Told, section_eq, is_secure, set_rtype, signed_ttl, ttl_of}
use Rattle.dns_rules.specs.MarkedSets.{MarkedSet, decider}

-- a record that nothing was found out of
abbrev pub cleared : Rr → Rr
cleared r = record r { proof = Indeterminate }

abbrev pub cleared_message : MessageValue → MessageValue
cleared_message m = record m {
  answers = map cleared m.answers;
  authorities = map cleared m.authorities;
  additionals = map cleared m.additionals;
}

-- the set is the record's, or the one that the record covers as a signature
abbrev pub is_about : Section → Rr → MarkedSet → Bool
is_about section r judged =
    section_eq judged.section section && (name_eq judged.set.owner r.owner && (judged.set.rtype == set_rtype r))

-- the place of a signature among those of the set that it covers: how many of them stand before it in its section
abbrev pub signature_place : List Rr → Rr → ℕ
signature_place before signature = count_by (covers (record signature { rtype = set_rtype signature })) before

-- a Secure set's ttl is that of its first record, bounded by the signature that decided
abbrev pub adjusted_ttl : ℕ → MarkedSet → Rr → ℕ
adjusted_ttl now judged r =
    if is_secure judged.mark
    then option_map_or (λ signature. min (ttl_of (slice_get judged.set.records 0)) (signed_ttl (rrsig_of signature) now)) (decider judged) r.ttl
    else r.ttl

-- a record with the mark of its set, behind those that stand before it in its section; of the signatures of a set the one that
-- decided is marked: that at its place (RFC 4035, 5.3.3), and no copy of it
unfoldable pub marked : ℕ → List MarkedSet → Section → List Rr → Rr → Rr
marked now sets section before r =
    option_map_or
    (λ judged.
    if is_signature r && not (option_map_or (λ n. n == signature_place before r) judged.sig false)
    then cleared r
    else record r { proof = judged.mark; ttl = adjusted_ttl now judged r })
    (find (is_about section r) sets) (cleared r)

-- each element changed, by itself and what stands before it
unfoldable pub map_after : {X Y : Type 0} → (List X → X → Y) → List X → List X → List Y
map_after f before [] = []
map_after f before (x ∷ xs) = f before x ∷ map_after f (before ++ x ∷ []) xs

abbrev pub marked_section : ℕ → List MarkedSet → Section → List Rr → List Rr
marked_section now sets section records = map_after (marked now sets section) [] records

abbrev pub marked_message : ℕ → List MarkedSet → MessageValue → MessageValue
marked_message now sets m = record m {
  answers = marked_section now sets Answer m.answers;
  authorities = marked_section now sets Authority m.authorities;
  additionals = marked_section now sets Additional m.additionals;
}

-- the records of a reply with the marks that sets leave to each, and their code
abbrev pub marked_told : ℕ → List MarkedSet → Told → Told
marked_told now sets told = record told {
  answers = marked_section now sets Answer told.answers;
  authorities = marked_section now sets Authority told.authorities;
  additionals = marked_section now sets Additional told.additionals;
}
