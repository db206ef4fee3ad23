-- What the records of a section say, as a loop meets one more.
use Rattle.std.proofs.Common.{◌≡◌, ℕ, ◌+◌, ◌<◌, List, [], ◌∷◌, ◌++◌, length, take, get_or, Option, sym, ap, ◌∙◌}
use Rattle.std.specs.List.{filter_map}
use Rattle.std.proofs.lemmas.List.{take_more}
use Rattle.std.proofs.lemmas.List.Elements.{filter_map-append}
use Rattle.dns_model.specs.Records.{Rr}

pub said_more : {X : Type 0} (read : Rr → Option X) (records : List Rr) (i : ℕ) (x : Rr) → i < length records
    → x ≡ get_or records i x
    → filter_map read (take (i + 1) records) ≡ filter_map read (take i records) ++ filter_map read (x ∷ [])
said_more read records i x within same =
    ap (filter_map read) (take_more records i x within ∙ ap (λ y. take i records ++ y ∷ []) (sym same))
    ∙ filter_map-append read (take i records) (x ∷ [])
