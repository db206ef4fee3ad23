-- For private functions alone: labels compared, and what two names have in common.
use Rattle.std.specs.Prelude.{Bool, nat_eq, if◌then◌else◌}
use Rattle.std.specs.Cmp.Lexicographic.{pointwise}
use Rattle.dns_model.specs.Names.{Label, Labels, lowered, name_eq, common_ancestor}

-- labels compare with A to Z folded
abbrev pub same_label : Label → Label → Bool
same_label one two = pointwise nat_eq (lowered one) (lowered two)

-- what two names of one length have in common, where the labels below them were compared: the name from which on those agree,
-- if all above agree too
abbrev pub common_from : Labels → Labels → Labels → Labels
common_from left right common = if name_eq left right then common else common_ancestor left right
