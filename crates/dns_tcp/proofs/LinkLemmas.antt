-- One read of a link onto the end of bytes.
use Rattle.std.proofs.Common.{◌≡◌, ℕ, ◌+◌, ◌<◌, ◌≤◌, List, [], ◌++◌, length, take, Result, Ok, Err, refl, sym, ap, ◌∙◌, append-nil, arith}
use Rattle.std.proofs.Math.Seq.{take-append-add}
use Rattle.std.proofs.lemmas.List.{length-append, length-take, take-append-le, take-take}
use borrow.Rule.Slice.PartMut.{post_of, put_mid}
use Rattle.std.proofs.lemmas.Slice.{take-put_mid_below}
use Rattle.std.specs.Io.{ReadsAtMost}
use Rattle.std.specs.Io.KnownBytes.{prepend_known}
use Rattle.dns_handle.specs.declared.io_kind.IoKind.{IoKind}
use Rattle.dns_link.specs.Calls.{IsToldWith, only_fault}
use Rattle.dns_link.specs.Counts.{after_read}
use Rattle.dns_link.specs.Moved.{EndsAt, and_then, moved_by}
use Rattle.dns_tcp.specs.LinkReads.{ReadsOnto, count_of}
use Rattle.dns_tcp.specs.Links.{LinkView}

module _ {L : Type 0} (seen : LinkView L) (most : ℕ) (old_link new_link : L) (old new buf : List ℕ) where
  -- bytes came into the front of a buffer
  pub read_bytes : (n : ℕ) → 0 < length buf → length buf ≤ most → n ≡ length (take n buf) → n ≤ length buf
      → seen.counts new_link ≡ after_read (length buf) (Ok n) (seen.counts old_link)
      → seen.given new_link ≡ and_then (seen.given old_link) (moved_by (Ok n) buf)
      → seen.left old_link ≡ prepend_known (moved_by (Ok n) buf) (seen.left new_link)
      → EndsAt (Ok n) buf (seen.left new_link) → seen.taken new_link ≡ seen.taken old_link
      → IsToldWith (seen.calls old_link) (only_fault (Ok n)) (seen.calls new_link)
      → new ≡ old ++ take n buf → ReadsOnto seen most old_link new_link old new (Ok n)
  read_bytes n some within same fits counts given left end taken calls onto = record {
    read = Ok (take n buf);
    once = record {
      room = length buf;
      some = some;
      within = within;
      fits = omega arith;
      counts = counts ∙ ap (λ (k : ℕ). after_read (length buf) (Ok k) (seen.counts old_link)) same;
      given = given;
      left = left;
      taken = taken;
      end = λ e.
          let none : take n buf ≡ [] = cc in
          let nothing = ap length none in
          let zero : n ≡ 0 = omega arith in
          end (ap Ok zero) some;
      calls = calls;
    };
    told = ap Ok same;
    onto = onto;
  }

  -- the read failed
  pub read_fault : (kind : IoKind) → 0 < length buf → length buf ≤ most
      → seen.counts new_link ≡ after_read (length buf) (Err kind) (seen.counts old_link)
      → seen.given new_link ≡ and_then (seen.given old_link) (moved_by (Err kind) buf)
      → seen.left old_link ≡ prepend_known (moved_by (Err kind) buf) (seen.left new_link)
      → seen.taken new_link ≡ seen.taken old_link
      → IsToldWith (seen.calls old_link) (only_fault {X = ℕ} (Err kind)) (seen.calls new_link)
      → new ≡ old → ReadsOnto seen most old_link new_link old new (Err kind)
  read_fault kind some within counts given left taken calls onto = record {
    read = Err kind;
    once = record {
      room = length buf;
      some = some;
      within = within;
      fits = omega arith;
      counts = counts;
      given = given;
      left = left;
      taken = taken;
      end = λ e. cc;
      calls = calls;
    };
    told = refl;
    onto = onto ∙ sym (append-nil old);
  }

-- of a list with a new part, the front up to inside that part
pub take-put_mid_inside : (a k n : ℕ) (xs ys : List ℕ) → a ≤ length xs → n ≤ length ys
    → take (a + n) (put_mid a k xs ys) ≡ take a xs ++ take n ys
take-put_mid_inside a k n xs ys h l =
    let behind = post_of a k xs in
    let long : length (take a xs) ≡ a = omega (arith, length-take a xs) in
    let counted : take (a + n) (put_mid a k xs ys) ≡ take (length (take a xs) + n) (put_mid a k xs ys) =
    ap (λ (m : ℕ). take (m + n) (put_mid a k xs ys)) (sym long) in
    counted ∙ take-append-add (take a xs) (ys ++ behind) n ∙ ap (λ (r : List ℕ). take a xs ++ r) (take-append-le n ys behind l)

module _ {L : Type 0} (seen : LinkView L) (most a k : ℕ) (old_link new_link : L) (old xs buf : List ℕ) where
  -- a read into the part of a list behind its first bytes, whatever it answered
  pub read_part : (outcome : Result ℕ IoKind) → a ≤ length xs → take a xs ≡ take a old → 0 < length buf → length buf ≤ most
      → ReadsAtMost outcome buf
      → seen.counts new_link ≡ after_read (length buf) outcome (seen.counts old_link)
      → seen.given new_link ≡ and_then (seen.given old_link) (moved_by outcome buf)
      → seen.left old_link ≡ prepend_known (moved_by outcome buf) (seen.left new_link)
      → EndsAt outcome buf (seen.left new_link) → seen.taken new_link ≡ seen.taken old_link
      → IsToldWith (seen.calls old_link) (only_fault outcome) (seen.calls new_link)
      → ReadsOnto seen most old_link new_link (take a old) (take (a + count_of outcome) (put_mid a k xs buf)) outcome
  read_part (Ok n) long same some within bound counts given left end taken calls =
      read_bytes seen most old_link new_link (take a old) (take (a + n) (put_mid a k xs buf)) buf n some within bound.1 bound.0
      counts given left end taken calls
      (take-put_mid_inside a k n xs buf long bound.0 ∙ ap (λ (l : List ℕ). l ++ take n buf) same)
  read_part (Err kind) long same some within bound counts given left end taken calls =
      let here : take (a + 0) (put_mid a k xs buf) ≡ take a xs =
      take-put_mid_below a k xs buf (a + 0) (omega arith) long ∙ ap (λ (m : ℕ). take m xs) (omega arith) in
      read_fault seen most old_link new_link (take a old) (take (a + 0) (put_mid a k xs buf)) buf kind some within
      counts given left taken calls (here ∙ same)

-- what stands in a vector after a write to a part of it, as far as the bytes that came
pub read_final : (a k : ℕ) (xs buf : List ℕ) (v : ℕ) (tail : List ℕ) (outcome : Result ℕ IoKind) → a ≤ length xs
    → a + length buf ≤ v → ReadsAtMost outcome buf
    → take (a + count_of outcome) (take v (put_mid a k xs buf ++ tail)) ≡ take (a + count_of outcome) (put_mid a k xs buf)
read_final a k xs buf v tail (Ok n) long within bound =
    let front = length-append (take a xs) (buf ++ post_of a k xs) in
    let behind = length-append buf (post_of a k xs) in
    let size = length-take a xs in
    let fits = bound.0 in
    let inside : a + n ≤ length (put_mid a k xs buf) = omega (arith, front, behind, size, fits, long) in
    take-take (a + n) v (put_mid a k xs buf ++ tail) (omega (arith, within, fits))
    ∙ take-append-le (a + n) (put_mid a k xs buf) tail inside
read_final a k xs buf v tail (Err kind) long within bound =
    let front = length-append (take a xs) (buf ++ post_of a k xs) in
    let size = length-take a xs in
    let inside : a + 0 ≤ length (put_mid a k xs buf) = omega (arith, front, size, long) in
    take-take (a + 0) v (put_mid a k xs buf ++ tail) (omega (arith, within))
    ∙ take-append-le (a + 0) (put_mid a k xs buf) tail inside

pub read_same : {L : Type 0} (seen : LinkView L) (most : ℕ) (old_link new_link : L) (old final new : List ℕ)
    (outcome : Result ℕ IoKind) → final ≡ new → ReadsOnto seen most old_link new_link old new outcome
    → ReadsOnto seen most old_link new_link old final outcome
read_same seen most old_link new_link old final new outcome e h = rw e h
