-- Whether a response has the questions of its request (RFC 5452, 9.1; RFC 1035, 7.3), also in the same letters.
use Rattle.std.specs.Prelude.{Bool, ◌==◌, ◌&&◌, List, length, nat_eq}
use Rattle.std.specs.Cmp.Lexicographic.{pointwise}
use Rattle.std.specs.List.{list_all, list_any}
use Rattle.dns_model.specs.Names.{Labels}
use Rattle.dns_model.specs.Records.{Question, question_eq}

-- as many questions as the request has, and each is one of the request's, with A to Z as a to z
abbrev pub asks_alike : List Question → List Question → Bool
asks_alike asked found = (length asked == length found) && list_all (λ q. list_any (λ a. question_eq a q) asked) found

-- the labels are the same bytes, A to Z apart from a to z
abbrev pub is_spelled_alike : Labels → Labels → Bool
is_spelled_alike = pointwise (pointwise nat_eq)

-- each question is one of the request's, in the same letters
abbrev pub spells_alike : List Question → List Question → Bool
spells_alike asked found = list_all (λ q. list_any (λ a. question_eq a q && is_spelled_alike a.owner q.owner) asked) found
