-- Frames in a row have one reading.
use Rattle.std.proofs.Common.{◌≡◌, ℕ, suc, ◌/◌, ◌%◌, ◌<◌, List, [], ◌∷◌, ◌++◌, length, take, drop, All, refl, sym, ap, ◌∙◌, append_assoc, append-nil, arith}
use Rattle.std.proofs.lemmas.Grind.{common_steps}
use Rattle.dns_model.proofs.Lists.{drop-front, take-front}
use Rattle.dns_tcp.specs.Frames.{frame, frames, lacking, HasFrame}

-- the bytes of a frame
pub frame-bytes : (m : List ℕ) → frame m ≡ length m / 256 ∷ length m % 256 ∷ m
unfolding frame
frame-bytes m = refl

-- lists that begin alike, with front parts of one length
fronts : (m n r s : List ℕ) → length m ≡ length n → m ++ r ≡ n ++ s → (m ≡ n) × (r ≡ s)
fronts m n r s l e =
    let a : take (length m) (m ++ r) ≡ m = take-front m r in
    let b : take (length n) (n ++ s) ≡ n = take-front n s in
    let c : drop (length m) (m ++ r) ≡ r = drop-front m r in
    let d : drop (length n) (n ++ s) ≡ s = drop-front n s in
    ((cc), (cc))

-- frames that begin bytes alike are one
pub frame_same : (m n r s : List ℕ) → frame m ++ r ≡ frame n ++ s → (m ≡ n) × (r ≡ s)
unfolding frame
frame_same m n r s e =
    let high : length m / 256 ≡ length n / 256 = cc in
    let low : length m % 256 ≡ length n % 256 = cc in
    let t : m ++ r ≡ n ++ s = cc in
    fronts m n r s (omega arith) t

-- nothing is lacking of a frame, whatever stands behind it
pub lacking-frame : (m r : List ℕ) → lacking (frame m ++ r) ≡ 0
unfolding frame
lacking-frame m r = grind (arith, common_steps)

all_first : (P : List ℕ → Type 0) (x : List ℕ) (xs : List (List ℕ)) → All P (x ∷ xs) → P x
all_first P x xs h = h 0 x (omega arith)

all_rest : (P : List ℕ → Type 0) (x : List ℕ) (xs : List (List ℕ)) → All P (x ∷ xs) → All P xs
all_rest P x xs h = λ k d lt. h (suc k) d (omega arith)

nil_frame : (m r : List ℕ) → frame m ++ r ≡ [] → ⊥
unfolding frame
nil_frame m r q = cc

-- messages that were read off a row of frames are its first ones, and the others' frames are left
pub read_row : (done all : List (List ℕ)) (tail : List ℕ) → All HasFrame all → frames done ++ tail ≡ frames all
    → (rest : List (List ℕ)) × (done ++ rest ≡ all) × All HasFrame rest × (tail ≡ frames rest)
read_row [] all tail h e = (all, refl, h, e)
read_row (d ∷ done) [] tail h e = absurd (nil_frame d (frames done ++ tail) (sym (append_assoc (frame d) (frames done) tail) ∙ e))
read_row (d ∷ done) (m ∷ all) tail h e =
    let same = frame_same d m (frames done ++ tail) (frames all) (sym (append_assoc (frame d) (frames done) tail) ∙ e) in
    let next = read_row done all tail (all_rest HasFrame m all h) same.1 in
    let first : d ≡ m = same.0 in
    let behind : done ++ next.0 ≡ all = next.1 in
    (next.0, (cc), next.2, next.3)

row_end : (ms ns rest : List (List ℕ)) → ms ++ rest ≡ ns → [] ≡ frames rest → ms ≡ ns
row_end ms ns [] j e = sym (append-nil ms) ∙ j
row_end ms ns (r ∷ rest) j e = absurd (nil_frame r (frames rest) (sym e))

-- a row of frames has one reading
pub row_same : (ms ns : List (List ℕ)) → All HasFrame ns → frames ms ≡ frames ns → ms ≡ ns
row_same ms ns h e =
    let r = read_row ms ns [] h (append-nil (frames ms) ∙ e) in
    row_end ms ns r.0 r.1 r.3

-- frames with one more behind them
pub frames-push : (ms : List (List ℕ)) (m : List ℕ) → frames (ms ++ m ∷ []) ≡ frames ms ++ frame m
frames-push [] m = append-nil (frame m)
frames-push (x ∷ ms) m = ap (λ l. frame x ++ l) (frames-push ms m) ∙ sym (append_assoc (frame x) (frames ms) (frame m))

-- bytes that begin with a length of 0 are no row of frames
pub no_empty_frame : (r : List ℕ) (ms : List (List ℕ)) → All HasFrame ms → frame [] ++ r ≡ frames ms → ⊥
no_empty_frame r [] h e = nil_frame [] r e
no_empty_frame r (m ∷ ms) h e =
    let same = frame_same [] m r (frames ms) e in
    let some = (all_first HasFrame m ms h).some in
    let none : [] ≡ m = same.0 in
    absurd (grind arith)

-- nor is a part of which something is lacking
pub no_part : (b : ℕ) (bs : List ℕ) (ms : List (List ℕ)) → 0 < lacking (b ∷ bs) → b ∷ bs ≡ frames ms → ⊥
no_part b bs [] h e = cc
no_part b bs (m ∷ ms) h e =
    let whole = ap lacking e ∙ lacking-frame m (frames ms) in
    absurd (omega arith)
