use Rattle.std.proofs.Common.{◌≡◌, ℕ, List, take}
use Rattle.std.specs.List.{list_any}
use Rattle.dns_anchor_roll.specs.FollowedKeys.{is_unrevoked, shows_form}
use Rattle.dns_anchor_roll.specs.Tables.{among}
use Rattle.dns_anchor_roll.proofs.examining.shown_keys.Given as goal

-- those of the records so far
abbrev pub invariant-loop-next : goal.invariant-loop-next
invariant-loop-next l = (q : List ℕ) → among q l.keys.items ≡ list_any (shows_form l.zone is_unrevoked q) (take l.next-index l.records)
