-- For private functions of this crate only: answers found by owner and type.
use Rattle.std.specs.Prelude.{ℕ, ◌≡◌, Bool, not, ◌==◌, ◌&&◌, ◌||◌, List, [], ◌∷◌, if◌then◌else◌}
use Rattle.std.specs.List.{list_any}
use Rattle.std.specs.BTreeSet as tree
use Rattle.std.specs.BTreeSet.{BTreeSet}
use Rattle.dns_model.specs.Names.{Labels, name_eq}
use Rattle.dns_model.specs.Types.{type_soa, class_any}
use Rattle.dns_model.specs.Records.{Rr, Question, MessageValue}
use Rattle.dns_handle.specs.declared.query_key.QueryKey.{QueryKey}
use Rattle.dns_handle.specs.QueryKeys.{key_cmp, key_of}
use Rattle.dns_handle.specs.Responses.{type_any, takes_any_answer, is_empty, all_records}

-- an owner and a type as a question
abbrev pub asked : Labels → ℕ → Question
asked owner rtype = record { owner = owner; rtype = rtype; class = class_any }

-- the owner and type are there
abbrev pub has_at : BTreeSet QueryKey → Labels → ℕ → Bool
has_at index owner rtype = tree.contains key_cmp index (key_of (asked owner rtype))

-- one owner and type more
abbrev pub Noted : BTreeSet QueryKey → BTreeSet QueryKey → Labels → ℕ → Type 0
Noted old new owner rtype = (o : Labels) (t : ℕ) → has_at new o t ≡ (has_at old o t || (name_eq owner o && (rtype == t)))

-- a record is noted by its owner, with its type and with ANY
abbrev pub is_noted : Labels → ℕ → Rr → Bool
is_noted o t r = name_eq r.owner o && ((r.rtype == t) || (type_any == t))

abbrev pub RecordNoted : BTreeSet QueryKey → BTreeSet QueryKey → Rr → Type 0
RecordNoted old new r = (o : Labels) (t : ℕ) → has_at new o t ≡ (has_at old o t || is_noted o t r)

-- the records are noted too
abbrev pub AllNoted : BTreeSet QueryKey → BTreeSet QueryKey → List Rr → Type 0
AllNoted old new rs = (o : Labels) (t : ℕ) → has_at new o t ≡ (has_at old o t || list_any (is_noted o t) rs)

-- the records of a message are noted and nothing else
abbrev pub Indexes : BTreeSet QueryKey → MessageValue → Type 0
Indexes index message = (o : Labels) (t : ℕ) → has_at index o t ≡ list_any (is_noted o t) (all_records message)

-- some question is answered by whatever the answer section holds
abbrev pub asks_for_any : List Question → Bool
asks_for_any queries = list_any (λ q. takes_any_answer q.rtype) queries

-- there is a record in the answer section, and some question takes it
abbrev pub takes_answers : MessageValue → Bool
takes_answers message = asks_for_any message.queries && not (is_empty message.answers)

-- the name or one above it has an SOA
abbrev pub zone_at : (Labels → ℕ → Bool) → Labels → Bool
zone_at has [] = has [] type_soa
zone_at has (label ∷ name) = has (label ∷ name) type_soa || zone_at has name

-- the question is answered by what is noted
abbrev pub answered_by : (Labels → ℕ → Bool) → Question → Bool
answered_by has q = if q.rtype == type_soa then zone_at has q.owner else has q.owner q.rtype
