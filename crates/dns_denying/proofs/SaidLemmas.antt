-- What the records of sets say, as a loop meets one more.
use Rattle.std.proofs.Common.{◌≡◌, ℕ, ◌+◌, ◌<◌, List, [], ◌∷◌, ◌++◌, length, take, get_or, Option, sym, ap, ◌∙◌}
use Rattle.std.specs.List.{filter_map, flat_map}
use Rattle.std.proofs.lemmas.List.{take_more}
use Rattle.std.proofs.lemmas.List.Elements.{filter-append, filter_map-append}
use Rattle.std.proofs.lemmas.List.Concat.{flat_map-append}
use Rattle.dns_model.specs.Records.{Rr}
use Rattle.dns_rules.specs.MarkedSets.{MarkedSet}
use Rattle.dns_rules.specs.Denying.{is_denying_as, denying_as, said_as}

-- what the records of sets say, with one more set
pub said-push : {X : Type 0} (rtype : ℕ) (read : Rr → Option X) (sets : List MarkedSet) (x : MarkedSet)
    → said_as rtype read (sets ++ x ∷ []) ≡ said_as rtype read sets ++ said_as rtype read (x ∷ [])
said-push rtype read sets x =
    let f = λ (judged : MarkedSet). filter_map read judged.set.records in
    ap (flat_map f) (filter-append (is_denying_as rtype) sets (x ∷ []))
    ∙ flat_map-append f (denying_as rtype sets) (denying_as rtype (x ∷ []))

-- what records say, with one more
pub said_more : {X : Type 0} (read : Rr → Option X) (records : List Rr) (i : ℕ) (x : Rr) → i < length records → x ≡ get_or records i x
    → filter_map read (take (i + 1) records) ≡ filter_map read (take i records) ++ filter_map read (x ∷ [])
said_more read records i x within same =
    ap (filter_map read) (take_more records i x within ∙ ap (λ y. take i records ++ y ∷ []) (sym same))
    ∙ filter_map-append read (take i records) (x ∷ [])
