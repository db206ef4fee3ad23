-- For private functions of this crate only: replies that are kept under keys.
use Rattle.std.specs.Prelude.{◌≡◌, ◌≢◌, ◌⊎◌, Bool, false, Option, None, Some, Ok, Err}
use Rattle.std.specs.BTreeMap as tree
use Rattle.std.specs.BTreeMap.{BTreeMap}
use Rattle.dns_handle.specs.Errors as seen
use Rattle.dns_handle.specs.Errors.{Reply}
use Rattle.dns_handle.specs.ErrorKinds.{is_no_memory}
use Rattle.dns_handle.specs.QueryKeys.{key_cmp, key_of}
use Rattle.dns_handle.specs.declared.query_key.QueryKey.{QueryKey}
use Rattle.dns_client.specs.Memos.{Kept, GivesReply}

-- a reply says that memory ran out
abbrev pub says_no_memory : Reply → Bool
says_no_memory (Ok response) = false
says_no_memory (Err error) = is_no_memory error

-- the reply that a map has for each question
abbrev pub kept_in : BTreeMap QueryKey Reply → Kept
kept_in kept q = tree.get key_cmp kept (key_of q)

-- what is kept is given, and nothing where nothing is
abbrev pub GivesKept : Option Reply → Option Reply → Type 0
GivesKept None given = given ≡ None
GivesKept (Some kept) None = ⊥
GivesKept (Some kept) (Some reply) = GivesReply kept reply

-- a reply that came is kept under a key and given; or memory ran out, and each key has what it had
abbrev pub IsKeptUnder : BTreeMap QueryKey Reply → BTreeMap QueryKey Reply → QueryKey → Reply → Reply → Type 0
IsKeptUnder before after key came reply =
    ((came ≢ Err seen.NoMemory) × tree.Updates key_cmp before after key (Some came) × GivesReply came reply)
    ⊎ ((reply ≡ Err seen.NoMemory) × ((k : QueryKey) → tree.get key_cmp after k ≡ tree.get key_cmp before k))
