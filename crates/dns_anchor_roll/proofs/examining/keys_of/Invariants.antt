use Rattle.std.proofs.Common.{◌≡◌, ℕ, List, take}
use Rattle.std.specs.List.{list_any}
use Rattle.dns_model.specs.Views.{is_revoked}
use Rattle.dns_trust.specs.Delegating.{shown}
use Rattle.dns_anchor_roll.specs.FollowedKeys.{shows_form}
use Rattle.dns_anchor_roll.specs.Tables.{among}
use Rattle.dns_anchor_roll.proofs.examining.keys_of.Given as goal

-- those of the records so far
abbrev pub invariant-loop-next : goal.invariant-loop-next
invariant-loop-next l = (q : List ℕ) → among q l.keys.items ≡ list_any (shows_form l.zone is_revoked q) (take l.next-index (shown l.records))
