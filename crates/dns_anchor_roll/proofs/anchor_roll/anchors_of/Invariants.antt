use Rattle.std.proofs.Common.{◌≡◌, ◌≤◌, ℕ, List, ◌∷◌, ◌||◌}
use Rattle.std.specs.List.{All, count_by, list_any}
use Rattle.dns_model.specs.Keys.{holds_anchor, is_anchor}
use Rattle.dns_anchor_roll.proofs.Anchors.{trusted_entry}
use Rattle.dns_anchor_roll.proofs.anchor_roll.anchors_of.Given as goal

-- the trusted keys are anchors, or are left
abbrev pub invariant-loop-key : goal.invariant-loop-key
invariant-loop-key l = record {
  owners : All (λ anchor. anchor.owner ≡ l.zone) l.anchors;
  keys : (algorithm : ℕ) (key : List ℕ) → (holds_anchor l.anchors l.zone algorithm key || list_any (trusted_entry (algorithm ∷ key)) l.key-iterator)
      ≡ list_any (trusted_entry (algorithm ∷ key)) l.table.known.entries;
  once : (algorithm : ℕ) (key : List ℕ) → count_by (is_anchor l.zone algorithm key) l.anchors ≤ 1;
}
