use Rattle.std.proofs.Common.{◌++◌, List, ℕ, ap, append_assoc, arith, length, sym, ◌∙◌}
use Rattle.std.proofs.lemmas.List.{append-nil}
use Rattle.dns_denial_index.specs.NameKeys.{label_key, name_key}
use Rattle.dns_denial_index.proofs.NameKeys.{key_of, key_length_of, key_of_root}
use Rattle.dns_denial_index.proofs.name_keys.+push_labels.Goals as goal

pub push_labels-requires : goal.push_labels-requires
push_labels-requires t c = (
  omega (arith, ap length c.in-Some.ensures),
  omega (arith, key_length_of c.args.name.now c.in-Some.label.now c.in-Some.above c.in-Some.ensures, c.requires),
)

pub returns-in-Some-clause-items : goal.returns-in-Some-clause-items
returns-in-Some-clause-items t c =
    let label = c.in-Some.label.now in
    c.push_label.ensures.items ∙ ap (λ (l : List ℕ). l ++ label_key label) c.push_labels.ensures.items
    ∙ append_assoc c.args.key.now.items (name_key c.in-Some.above) (label_key label)
    ∙ ap (λ (l : List ℕ). c.args.key.now.items ++ l)
    (sym (key_of c.args.name.now label c.in-Some.above c.in-Some.ensures))

pub returns-in_default-clause-items : goal.returns-in_default-clause-items
returns-in_default-clause-items t c =
    sym (ap (λ (l : List ℕ). c.args.key.now.items ++ l) (key_of_root c.args.name.now c.in_default.ensures)
    ∙ append-nil c.args.key.now.items)
