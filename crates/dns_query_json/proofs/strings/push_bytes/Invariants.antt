use Rattle.std.proofs.Common.{◌≡◌, ◌++◌, drop}
use Rattle.std.specs.List.{flat_map}
use Rattle.dns_query_json.specs.Json.{string_byte}
use Rattle.dns_query_json.proofs.strings.push_bytes.Given as goal

-- what is written so far, and the text of what is left, are that of all
abbrev pub invariant-loop-byte : goal.invariant-loop-byte
invariant-loop-byte l =
    l.into.items ++ flat_map string_byte (drop l.byte-index l.text) ≡ l.initial.into.items ++ flat_map string_byte l.text
