-- What loops over windows and character-strings gather.
use Rattle.std.proofs.Common.{◌≡◌, ℕ, suc, ◌+◌, ◌<◌, ◌≤◌, Bool, true, false, ◌&&◌, List, [], ◌∷◌, ◌++◌, length, Option, None, Some, if◌then◌else◌, refl, sym, ap, ◌∙◌, arith, append-nil, length-drop}
use Rattle.std.specs.List.{flat_map, list_all}
use Rattle.std.specs.Option.{option_map, option_map_or}
use Rattle.std.proofs.lemmas.Bool.{and_parts}
use Rattle.std.proofs.lemmas.List.{append_assoc}
use Rattle.dns_model.specs.OptionSteps.{◌>>=◌}
use Rattle.dns_model.specs.Shapes.{Window, counted_in, window_in, windows_in, are_rising, is_bitmap}
use Rattle.dns_rdata.proofs.Through.{let_through}
use Rattle.dns_rdata.proofs.WindowLemmas.{windows_more, windows_fail, windows_end}
use Rattle.dns_presentation.specs.Forms.{quoted_words, strings_in}
use Rattle.dns_presentation.specs.Spelling.{quoted, space}
use Rattle.dns_presentation.specs.TypeLists.{bit_types, is_shortest, types_below, types_in, types_of, window_types}

-- ---- the bits of a window

-- the types of one bit more
pub below_more : (first : ℕ) (bits : List ℕ) (place : ℕ)
    → types_below first bits (place + 1) ≡ types_below first bits place ++ bit_types first bits place
unfolding types_below
below_more first bits place = let next : place + 1 ≡ suc place = omega arith in rw next refl

pub below_none : (first : ℕ) (bits : List ℕ) → types_below first bits 0 ≡ []
unfolding types_below
below_none first bits = refl

-- ---- windows

-- a window in front of others
abbrev pub with_window : Window → Option (List Window) → Option (List Window)
with_window window windows = windows >>= λ ws. Some (window ∷ ws)

-- types that were found, and those of windows
abbrev pub types_after : List ℕ → Option (List Window) → Option (List ℕ)
types_after seen None = None
types_after seen (Some windows) =
    if are_rising windows && list_all is_shortest windows then Some (seen ++ flat_map window_types windows) else None

-- the windows' numbers rise, if there are windows
abbrev rises : Option (List Window) → Bool
rises windows = option_map_or are_rising windows false

pub types_start : (bytes : List ℕ) → types_after [] (windows_in bytes bytes) ≡ types_in bytes
unfolding types_in
types_start bytes =
    elim (windows_in bytes bytes) as (λ w. types_after [] w ≡ (w >>= types_of)) [ None ↦ refl | Some w ↦ refl ]

rising_rest : (window : Window) (windows : List Window) → are_rising (window ∷ windows) ≡ true
    → are_rising windows ≡ true
rising_rest window [] h = refl
rising_rest window (next ∷ windows) h = (and_parts _ _ h).1

types_step : (seen : List ℕ) (window : Window) (windows : Option (List Window))
    → rises (with_window window windows) ≡ true
    → is_shortest window ≡ true
    → types_after seen (with_window window windows) ≡ types_after (seen ++ window_types window) windows
types_step seen window None h s = let none : false ≡ true = h in cc
types_step seen window (Some windows) h s =
    rw (h, rising_rest window windows h, s)
    (ap (λ types. if list_all is_shortest windows then Some types else None)
    (sym (append_assoc seen (window_types window) (flat_map window_types windows))))

types_stop : (seen : List ℕ) (window : Window) (windows : Option (List Window))
    → rises (with_window window windows) ≡ true
    → is_shortest window ≡ false → types_after seen (with_window window windows) ≡ None
types_stop seen window None h s = refl
types_stop seen window (Some windows) h s = rw (h, s) refl

rises_rest : (window : Window) (windows : Option (List Window)) → rises (with_window window windows) ≡ true
    → rises windows ≡ true
rises_rest window None h = h
rises_rest window (Some windows) h = rising_rest window windows h

bitmap_with : (bytes : List ℕ) (window : Window) (rest : List ℕ) → 0 < length bytes
    → window_in bytes ≡ Some (window, rest)
    → is_bitmap bytes ≡ true → rises (with_window window (windows_in rest rest)) ≡ true
unfolding is_bitmap
bitmap_with bytes window rest h e is = ap rises (sym (windows_more bytes window rest h e)) ∙ is

-- a window has bytes
window_some : (bytes : List ℕ) (window : Window) (rest : List ℕ) → window_in bytes ≡ Some (window, rest)
    → 0 < length bytes
unfolding window_in
window_some [] window rest h = cc
window_some (byte ∷ bytes) window rest h = omega arith

-- one window more
pub types_more : (seen bytes : List ℕ) (window : Window) (rest : List ℕ) → window_in bytes ≡ Some (window, rest)
    → is_bitmap bytes ≡ true → is_shortest window ≡ true
    → types_after seen (windows_in bytes bytes) ≡ types_after (seen ++ window_types window) (windows_in rest rest)
types_more seen bytes window rest e is s =
    let h = window_some bytes window rest e in
    ap (types_after seen) (windows_more bytes window rest h e)
    ∙ types_step seen window (windows_in rest rest) (bitmap_with bytes window rest h e is) s

-- a window that is longer than it must be
pub types_longer : (seen bytes : List ℕ) (window : Window) (rest : List ℕ) → window_in bytes ≡ Some (window, rest)
    → is_bitmap bytes ≡ true → is_shortest window ≡ false → types_after seen (windows_in bytes bytes) ≡ None
types_longer seen bytes window rest e is s =
    let h = window_some bytes window rest e in
    ap (types_after seen) (windows_more bytes window rest h e)
    ∙ types_stop seen window (windows_in rest rest) (bitmap_with bytes window rest h e is) s

-- the bytes after a window are a bitmap too
pub bitmap_rest : (bytes : List ℕ) (window : Window) (rest : List ℕ) → window_in bytes ≡ Some (window, rest)
    → is_bitmap bytes ≡ true → is_bitmap rest ≡ true
unfolding is_bitmap
bitmap_rest bytes window rest e is =
    let h = window_some bytes window rest e in
    rises_rest window (windows_in rest rest) (bitmap_with bytes window rest h e is)

-- no bytes are left where no window is in front of a bitmap
pub types_end : (seen bytes : List ℕ) → window_in bytes ≡ None → is_bitmap bytes ≡ true
    → types_after seen (windows_in bytes bytes) ≡ Some seen
unfolding is_bitmap
types_end seen [] h is = ap (types_after seen) (windows_end [] refl) ∙ ap Some (append-nil seen)
types_end seen (byte ∷ bytes) h is =
    let none : false ≡ true = ap rises (sym (windows_fail (byte ∷ bytes) (omega arith) h)) ∙ is in cc

-- bytes that are no bitmap list no types
pub types_none : (bytes : List ℕ) → is_bitmap bytes ≡ false → types_in bytes ≡ None
unfolding types_in is_bitmap
types_none bytes =
    elim (windows_in bytes bytes) as (λ w. rises w ≡ false → (w >>= types_of) ≡ None)
    [ None ↦ λ h. refl | Some w ↦ λ h. rw h refl ]

-- ---- character-strings

-- words that were made, and those of the texts that are left
abbrev pub strings_after : List ℕ → Option (List (List ℕ)) → Option (List ℕ)
strings_after seen None = None
strings_after seen (Some texts) = Some (seen ++ quoted_words texts)

abbrev after_text : Option (List ℕ × List ℕ) → (List ℕ → Option (List (List ℕ))) → Option (List (List ℕ))
after_text text more = text >>= λ t. more t.1 >>= λ texts. Some (t.0 ∷ texts)

text_shorter : (bytes text rest : List ℕ) → counted_in bytes ≡ Some (text, rest) → length rest < length bytes
unfolding counted_in
text_shorter [] text rest h = cc
text_shorter (size ∷ bytes) text rest h =
    let e = ap (λ (p : List ℕ × List ℕ). length p.1) (let_through _ _ _ h) in
    omega (arith, length-drop size bytes)

after_same : (front : Option (List ℕ × List ℕ)) (f g : List ℕ → Option (List (List ℕ)))
    → ((text rest : List ℕ) → front ≡ Some (text, rest) → f rest ≡ g rest) → after_text front f ≡ after_text front g
after_same None f g h = refl
after_same (Some (text, rest)) f g h = ap (λ more. more >>= λ texts. Some (text ∷ texts)) (h text rest refl)

-- any bound that is long enough reads the same texts
bound_enough : (a b bytes : List ℕ) → length bytes ≤ length a → length bytes ≤ length b
    → strings_in a bytes ≡ strings_in b bytes
unfolding strings_in
bound_enough a b [] g h = refl
bound_enough [] b (x ∷ xs) g h = absurd (omega arith)
bound_enough (p ∷ a) [] (x ∷ xs) g h = absurd (omega arith)
bound_enough (p ∷ a) (q ∷ b) (x ∷ xs) g h =
    after_same (counted_in (x ∷ xs)) (strings_in a) (strings_in b)
    (λ text rest e. let s = text_shorter (x ∷ xs) text rest e in bound_enough a b rest (omega arith) (omega arith))

-- the texts are the first and those of the rest
strings_step : (bytes : List ℕ) → 0 < length bytes
    → strings_in bytes bytes ≡ after_text (counted_in bytes) (λ rest. strings_in rest rest)
unfolding strings_in
strings_step [] h = absurd (omega arith)
strings_step (x ∷ xs) h =
    after_same (counted_in (x ∷ xs)) (strings_in xs) (λ rest. strings_in rest rest)
    (λ text rest e.
    let s = text_shorter (x ∷ xs) text rest e in bound_enough xs rest rest (omega arith) (omega arith))

text_then : (seen text : List ℕ) (texts : Option (List (List ℕ)))
    → strings_after seen (texts >>= λ ts. Some (text ∷ ts)) ≡ strings_after (seen ++ (space ∷ quoted text)) texts
text_then seen text None = refl
text_then seen text (Some texts) = ap Some (sym (append_assoc seen (space ∷ quoted text) (quoted_words texts)))

-- one text more
pub strings_more : (seen bytes text rest : List ℕ) → 0 < length bytes → counted_in bytes ≡ Some (text, rest)
    → strings_after seen (strings_in bytes bytes)
    ≡ strings_after (seen ++ (space ∷ quoted text)) (strings_in rest rest)
strings_more seen bytes text rest h e =
    ap (strings_after seen)
    (strings_step bytes h ∙ ap (λ front. after_text front (λ rest. strings_in rest rest)) e)
    ∙ text_then seen text (strings_in rest rest)

-- bytes that begin with no text
pub strings_fail : (seen bytes : List ℕ) → 0 < length bytes → counted_in bytes ≡ None
    → strings_after seen (strings_in bytes bytes) ≡ None
strings_fail seen bytes h e =
    ap (strings_after seen)
    (strings_step bytes h ∙ ap (λ front. after_text front (λ rest. strings_in rest rest)) e)

pub strings_start : (bytes : List ℕ)
    → strings_after [] (strings_in bytes bytes) ≡ option_map quoted_words (strings_in bytes bytes)
strings_start bytes =
    elim (strings_in bytes bytes) as (λ t. strings_after [] t ≡ option_map quoted_words t)
    [ None ↦ refl | Some t ↦ refl ]

pub strings_end : (seen bytes : List ℕ) → length bytes ≡ 0
    → strings_after seen (strings_in bytes bytes) ≡ Some seen
unfolding strings_in
strings_end seen [] h = ap Some (append-nil seen)
strings_end seen (x ∷ xs) h = absurd (omega arith)
