use Rattle.std.proofs.Common.{◌≡◌, ◌++◌, length}
use Rattle.std.specs.List.{flat_map, list_all}
use Rattle.dns_saved_session.specs.SavedText.{fitting_accept, accept_text}
use Rattle.dns_saved_session.proofs.accepts.push_accepts.Given as goal

abbrev pub invariant-accepts : goal.invariant-accepts
invariant-accepts l =
    (l.into.items ++ flat_map accept_text l.left ≡ l.initial.into.items ++ flat_map accept_text l.accepts)
    × (list_all fitting_accept l.accepts ≡ list_all fitting_accept l.left)

abbrev pub decreases-accepts : goal.decreases-accepts
decreases-accepts l = length l.left
