-- How a response says that its answer was made from a wildcard, and that wildcard's name (RFC 4035, 5.3.4; RFC 4592, 2.1.1).
use Rattle.std.specs.Prelude.{ℕ, Bool, not, ◌&&◌, List, Option, is_some}
use Rattle.std.specs.List.{find}
use Rattle.std.specs.Option.{option_map, option_and_then}
use Rattle.dns_model.specs.NameForm.{name_of}
use Rattle.dns_model.specs.Names.{Labels, name_eq, star, wire}
use Rattle.dns_model.specs.Records.{Rr, Question}
use Rattle.dns_model.specs.RecordViews.{rrsig_of}
use Rattle.dns_model.specs.Told.{Told}
use Rattle.dns_rules.specs.Outcome.{has_answer, is_wildcard_signature}

-- the wildcard right below a name, where it is short enough to be a name
abbrev pub wildcard_below : Labels → Option Labels
wildcard_below encloser = name_of (wire (star encloser))

-- a signature of a wildcard that stands at the name that was asked for
abbrev pub expands : Question → Rr → Bool
expands q r = name_eq q.owner r.owner && is_wildcard_signature r

-- how many labels the wildcard's name has without its `*`, by the first such signature of the answer section (RFC 4034, 3.1.3)
abbrev pub expanded_labels : Question → List Rr → Option ℕ
expanded_labels q answers = option_map (λ sig. sig.labels) (option_and_then rrsig_of (find (expands q) answers))

-- the answer wasn't made from a wildcard, so it needs no denial
abbrev pub is_plain_answer : Question → Told → Bool
is_plain_answer q told = has_answer q told && not (is_some (expanded_labels q told.answers))
