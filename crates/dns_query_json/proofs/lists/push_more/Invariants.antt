use Rattle.std.proofs.Common.{◌≡◌, ◌++◌, ◌∷◌, drop}
use Rattle.std.specs.List.{flat_map}
use Rattle.dns_query_json.proofs.lists.push_more.Given as goal

-- what is written so far, and the texts of what is left, are those of all
abbrev pub invariant-loop-value : goal.invariant-loop-value
invariant-loop-value g l =
    l.into.items ++ flat_map (λ x. 44 ∷ g.T.JsonValue.text x) (drop l.value-index l.values)
    ≡ l.initial.into.items ++ flat_map (λ x. 44 ∷ g.T.JsonValue.text x) l.values
