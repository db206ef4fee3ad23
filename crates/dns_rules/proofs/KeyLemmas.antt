-- Records that are the same byte for byte have one owner, in one case: the wire form tells names apart.
use Rattle.std.proofs.Common.{◌≡◌, ℕ, true, ◌==◌, ◌&&◌, List, [], ◌∷◌, ◌++◌, length, take, drop, refl, sym, ap, ◌∙◌, arith}
use Rattle.std.specs.Cmp.Lexicographic.{bytes_decides}
use Rattle.std.proofs.Math.Seq.{take-append_seam, drop-append_seam}
use Rattle.std.proofs.lemmas.Bool.{and_parts}
use Rattle.std.proofs.lemmas.List.{length-append}
use Rattle.dns_model.specs.Names.{Labels, wire}
use Rattle.dns_model.specs.Keys.{bytes_eq}
use Rattle.dns_model.specs.Records.{Rr}
use Rattle.dns_model.proofs.SetLemmas.{number_same}
use Rattle.dns_model.proofs.WireLemmas.{length-wire}
use Rattle.dns_rules.specs.CacheKeys.{same_bytes}

head_same : (m n : ℕ) (xs ys : List ℕ) → (m ∷ xs) ≡ (n ∷ ys) → m ≡ n
head_same m n xs ys h = cc

tail_same : (m n : ℕ) (xs ys : List ℕ) → (m ∷ xs) ≡ (n ∷ ys) → xs ≡ ys
tail_same m n xs ys h = cc

-- labels of any lengths with one wire form are one
pub wire_tells : (a b : Labels) → wire a ≡ wire b → a ≡ b
wire_tells [] [] h = refl
wire_tells [] (m ∷ b) h =
    let long = length-wire b in
    let none : [] ≡ m ++ wire b = tail_same 0 (length m) [] (m ++ wire b) h in
    absurd (omega (arith, long, ap length none, length-append m (wire b)))
wire_tells (l ∷ a) [] h =
    let long = length-wire a in
    let none : l ++ wire a ≡ [] = tail_same (length l) 0 (l ++ wire a) [] h in
    absurd (omega (arith, long, ap length none, length-append l (wire a)))
wire_tells (l ∷ a) (m ∷ b) h =
    let long : length l ≡ length m = head_same (length l) (length m) (l ++ wire a) (m ++ wire b) h in
    let rest : l ++ wire a ≡ m ++ wire b = tail_same (length l) (length m) (l ++ wire a) (m ++ wire b) h in
    let first : l ≡ m =
    sym (take-append_seam l (wire a)) ∙ ap (take (length l)) rest ∙ ap (λ k. take k (m ++ wire b)) long
    ∙ take-append_seam m (wire b) in
    let more : wire a ≡ wire b =
    sym (drop-append_seam l (wire a)) ∙ ap (drop (length l)) rest ∙ ap (λ k. drop k (m ++ wire b)) long
    ∙ drop-append_seam m (wire b) in
    let others : a ≡ b = wire_tells a b more in
    ap (λ k. k ∷ a) first ∙ ap (λ t. m ∷ t) others

-- the same records have one owner
pub owner_same : (a b : Rr) → same_bytes a b ≡ true → a.owner ≡ b.owner
owner_same a b h =
    let rest = (a.rtype == b.rtype) && ((a.class == b.class) && bytes_eq a.rdata b.rdata) in
    wire_tells a.owner b.owner ((bytes_decides (wire a.owner) (wire b.owner)).0
    (and_parts (bytes_eq (wire a.owner) (wire b.owner)) rest h).0)

-- and one type
pub rtype_same : (a b : Rr) → same_bytes a b ≡ true → a.rtype ≡ b.rtype
rtype_same a b h =
    let last = (a.class == b.class) && bytes_eq a.rdata b.rdata in
    let rest = (a.rtype == b.rtype) && last in
    number_same a.rtype b.rtype (and_parts (a.rtype == b.rtype) last ((and_parts (bytes_eq (wire a.owner) (wire b.owner)) rest h).1)).0
