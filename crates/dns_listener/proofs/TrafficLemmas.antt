-- What a port tells since it is counted.
use Rattle.std.proofs.Common.{◌≡◌, ◌∙◌, ◌+◌, ◌-◌, ◌==◌, ◌^◌, ℕ, Bool, true, false, List, [], ◌∷◌, ◌++◌, length, drop, Option, None, Some, Result, Ok, Err, refl, sym, ap, subst, append-nil, length-append, arith}
use Rattle.std.specs.Prelude.{IfSome}
use Rattle.std.proofs.lemmas.Bool.Decides.{nat_tests}
use Rattle.std.proofs.lemmas.List.{drop-append-le}
use Rattle.std.proofs.Math.Seq.{drop-length}
use Rattle.dns_model.specs.Counts.{one_more}
use Rattle.dns_handle.specs.declared.io_kind.IoKind.{IoKind}
use Rattle.dns_ports.specs.Ports.{TellsMore, gots_after, given_by, sent_by}
use Rattle.dns_ports.specs.declared.port.PortFault.{PortFault}
use Rattle.dns_listener.specs.Ports.{last_of, last_ones, sent_after}

-- nothing came since
pub none_since : (told : Option (List (List ℕ))) → IfSome (last_ones 0 told) (λ l. l ≡ [])
none_since None = tt
none_since (Some told) =
    let whole : length told - 0 ≡ length told = omega arith in ap (λ k. drop k told) whole ∙ drop-length told

more_in : (a b : Bool) (n m : ℕ) (told : List (List ℕ)) (x : List ℕ) → (a ≡ true → b ≡ true) → (b ≡ false → m ≡ n + 1)
    → TellsMore (last_of a n told) (x ∷ []) (last_of b m (told ++ x ∷ []))
more_in a true n m told x both one = tt
more_in true false n m told x both one = let wrong : false ≡ true = both refl in absurd cc
more_in false false n m told x both one =
    let same : m ≡ n + 1 = one refl in
    let long : length (told ++ x ∷ []) - m ≡ length told - n = omega (arith, same, length-append told (x ∷ [])) in
    ap (λ k. drop k (told ++ x ∷ [])) long ∙ drop-append-le (length told - n) told (x ∷ []) (omega arith)

same_in : (a : Bool) (n : ℕ) (before now : List (List ℕ)) → now ≡ before ++ []
    → TellsMore (last_of a n before) [] (last_of a n now)
same_in true n before now same = tt
same_in false n before now same =
    ap (λ l. drop (length l - n) l) (same ∙ append-nil before) ∙ sym (append-nil (drop (length before - n) before))

more_since : (n : ℕ) (before now : Option (List (List ℕ))) (x : List ℕ) → TellsMore before (x ∷ []) now
    → TellsMore (last_ones n before) (x ∷ []) (last_ones (one_more n) now)
more_since n before None x tells = tt
more_since n None (Some now) x tells = absurd tells
more_since n (Some before) (Some now) x tells =
    subst (λ l. TellsMore (last_ones n (Some before)) (x ∷ []) (last_ones (one_more n) (Some l))) (sym tells)
    (more_in (n == 2 ^ 64 - 1) (one_more n == 2 ^ 64 - 1) n (one_more n) before x (λ is. grind (arith, nat_tests, is))
    (λ is. grind (arith, nat_tests, is)))

same_since : (n : ℕ) (before now : Option (List (List ℕ))) → TellsMore before [] now
    → TellsMore (last_ones n before) [] (last_ones n now)
same_since n before None tells = tt
same_since n None (Some now) tells = absurd tells
same_since n (Some before) (Some now) tells = same_in (n == 2 ^ 64 - 1) n before now tells

pub received_since : (gots : ℕ) (given : Result (Option (List ℕ)) PortFault) (before now : Option (List (List ℕ)))
    → TellsMore before (given_by given) now
    → TellsMore (last_ones gots before) (given_by given) (last_ones (gots_after gots given) now)
received_since gots (Ok (Some request)) before now tells = more_since gots before now request tells
received_since gots (Ok None) before now tells = same_since gots before now tells
received_since gots (Err fault) before now tells = same_since gots before now tells

pub replied_since : {X : Type 0} (count : ℕ) (bytes : List ℕ) (sent : Result X IoKind)
    (before now : Option (List (List ℕ))) → TellsMore before (sent_by bytes sent) now
    → TellsMore (last_ones count before) (sent_by bytes sent) (last_ones (sent_after sent count) now)
replied_since count bytes (Ok done) before now tells = more_since count before now bytes tells
replied_since count bytes (Err kind) before now tells = same_since count before now tells
