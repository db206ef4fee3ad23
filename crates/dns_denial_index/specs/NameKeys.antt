-- For private functions alone: names as strings of bytes that sort in canonical order (RFC 4034, 6.1).
use Rattle.std.specs.Prelude.{ℕ, ◌+◌, ◌-◌, nat_lt, List, [], ◌∷◌, ◌++◌, map, if◌then◌else◌}
use Rattle.std.specs.Char.{to_ascii_lowercase}
use Rattle.dns_model.specs.Names.{Label, Labels}
use Rattle.dns_model.specs.Owned.{OwnedNsec}
use Rattle.dns_rules.specs.Covering.{leads_back}

-- a folded byte as a byte of a key: since no such byte is A to Z, there is room for 0 before all and for 255 after all
abbrev pub shifted : ℕ → ℕ
shifted byte = if nat_lt byte 65 then byte + 1 else byte - 1

abbrev pub symbol : ℕ → ℕ
symbol byte = shifted (to_ascii_lowercase byte)

-- a label ends with 0, so that a missing label sorts first
abbrev pub label_key : Label → List ℕ
label_key label = map symbol label ++ 0 ∷ []

-- the labels from the root on
unfoldable pub name_key : Labels → List ℕ
name_key [] = []
name_key (label ∷ above) = name_key above ++ label_key label

-- the key right behind those of all names at or below a name
abbrev pub behind : Labels → List ℕ
behind name = name_key name ++ 255 ∷ []

-- the key at which the names between an owner and the next one end
abbrev pub end_key : OwnedNsec → List ℕ
end_key nsec = if leads_back nsec then behind nsec.fields.next else name_key nsec.fields.next
