-- For private functions of this crate only: how many keys of each tag were met, to two at the most.
use Rattle.std.specs.Prelude.{ℕ, ◌+◌, Bool, ◌==◌, ◌&&◌, nat_lt, Option, None, Some, unwrap_or, if◌then◌else◌}
use Rattle.std.specs.Ordering.{nat_cmp}
use Rattle.std.specs.BTreeMap.{BTreeMap, get}
use Rattle.dns_model.specs.Names.{Labels}
use Rattle.dns_model.specs.Records.{Rr}
use Rattle.dns_model.specs.Signing.{key_tag_of}
use Rattle.dns_rules.specs.Marks.{is_key_of_zone}

-- the count that a map keeps for a tag
unfoldable pub count_in : BTreeMap ℕ ℕ → ℕ → ℕ
count_in counts tag = unwrap_or (get nat_cmp counts tag) 0

-- the count of a tag, once another was counted
abbrev pub tag_count_after : BTreeMap ℕ ℕ → ℕ → ℕ → ℕ
tag_count_after counts tag t =
    if (t == tag) && nat_lt (count_in counts tag) 2 then count_in counts tag + 1 else count_in counts t

-- the tag of a zone's key
abbrev pub tag_in : Labels → Rr → Option ℕ
tag_in zone key = if is_key_of_zone zone key then Some (key_tag_of key.rdata) else None

-- the record is a zone's key, and one of the first two of its tag
abbrev pub is_tried : Labels → BTreeMap ℕ ℕ → Rr → Bool
is_tried zone counts key = is_key_of_zone zone key && nat_lt (count_in counts (key_tag_of key.rdata)) 2

-- the count of a tag, once a record was met
abbrev pub count_after : Labels → BTreeMap ℕ ℕ → Rr → ℕ → ℕ
count_after zone counts key t =
    if is_key_of_zone zone key then tag_count_after counts (key_tag_of key.rdata) t else count_in counts t
