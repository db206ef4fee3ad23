-- A row of windows is read one window after another.
use Rattle.std.proofs.Common.{◌≡◌, ℕ, ◌≤◌, ◌<◌, Bool, true, false, ◌||◌, ◌&&◌, nat_lt, List, [], ◌∷◌, length, Option, None, Some, refl, sym, ap, ◌∙◌, arith, length-drop}
use Rattle.dns_rdata.proofs.Through.{let_through}
use Rattle.dns_model.specs.Shapes.{Window, window_in, windows_in, window_has, windows_have, bitmap_has, is_bitmap, are_rising}
use Rattle.dns_rdata.specs.Windows.{follows, rises_after, found_or_has}
use Rattle.dns_model.specs.OptionSteps.{◌>>=◌}
use Rattle.std.specs.Option.{option_map_or}

abbrev with_window : Window → Option (List Window) → Option (List Window)
with_window window windows = windows >>= λ ws. Some (window ∷ ws)

abbrev after_window : Option (Window × List ℕ) → (List ℕ → Option (List Window)) → Option (List Window)
after_window window more = window >>= λ w. with_window w.0 (more w.1)

-- the bytes after a window are fewer
pub window_shorter : (bytes : List ℕ) (window : Window) (rest : List ℕ) → window_in bytes ≡ Some (window, rest) → length rest < length bytes
unfolding window_in
window_shorter [] window rest h = cc
window_shorter (number ∷ []) window rest h = cc
window_shorter (number ∷ size ∷ bytes) window rest h =
    let e = ap (λ (p : Window × List ℕ). length p.1) (let_through _ _ _ h) in
    omega (arith, length-drop size bytes)

after_same : (front : Option (Window × List ℕ)) (f g : List ℕ → Option (List Window))
    → ((window : Window) (rest : List ℕ) → front ≡ Some (window, rest) → f rest ≡ g rest) → after_window front f ≡ after_window front g
after_same None f g h = refl
after_same (Some (window, rest)) f g h = ap (with_window window) (h window rest refl)

-- any bound that is long enough reads the same windows
bound_enough : (a b bytes : List ℕ) → length bytes ≤ length a → length bytes ≤ length b → windows_in a bytes ≡ windows_in b bytes
unfolding windows_in
bound_enough a b [] g h = refl
bound_enough [] b (x ∷ xs) g h = absurd (omega arith)
bound_enough (p ∷ a) [] (x ∷ xs) g h = absurd (omega arith)
bound_enough (p ∷ a) (q ∷ b) (x ∷ xs) g h =
    after_same (window_in (x ∷ xs)) (windows_in a) (windows_in b)
    (λ window rest e. let s = window_shorter (x ∷ xs) window rest e in bound_enough a b rest (omega arith) (omega arith))

-- the windows of a row are its first and those of the rest
pub windows_step : (bytes : List ℕ) → 0 < length bytes
    → windows_in bytes bytes ≡ after_window (window_in bytes) (λ rest. windows_in rest rest)
unfolding windows_in
windows_step [] h = absurd (omega arith)
windows_step (x ∷ xs) h =
    after_same (window_in (x ∷ xs)) (windows_in xs) (λ rest. windows_in rest rest)
    (λ window rest e. let s = window_shorter (x ∷ xs) window rest e in bound_enough xs rest rest (omega arith) (omega arith))

pub windows_more : (bytes : List ℕ) (window : Window) (rest : List ℕ) → 0 < length bytes → window_in bytes ≡ Some (window, rest)
    → windows_in bytes bytes ≡ with_window window (windows_in rest rest)
windows_more bytes window rest h e = windows_step bytes h ∙ ap (λ front. after_window front (λ rest. windows_in rest rest)) e

pub windows_fail : (bytes : List ℕ) → 0 < length bytes → window_in bytes ≡ None → windows_in bytes bytes ≡ None
windows_fail bytes h e = windows_step bytes h ∙ ap (λ front. after_window front (λ rest. windows_in rest rest)) e

pub windows_end : (bytes : List ℕ) → length bytes ≡ 0 → windows_in bytes bytes ≡ Some []
unfolding windows_in
windows_end [] h = refl
windows_end (x ∷ xs) h = absurd (omega arith)

found_step : (found : Bool) (rtype : ℕ) (window : Window) (windows : Option (List Window))
    → found_or_has found rtype (with_window window windows) ≡ found_or_has (found || window_has rtype window) rtype windows
found_step found rtype window None = refl
found_step true rtype window (Some windows) = refl
found_step false rtype window (Some windows) = refl

pub found_more : (found : Bool) (rtype : ℕ) (bytes : List ℕ) (window : Window) (rest : List ℕ) → 0 < length bytes
    → window_in bytes ≡ Some (window, rest)
    → found_or_has found rtype (windows_in bytes bytes) ≡ found_or_has (found || window_has rtype window) rtype (windows_in rest rest)
found_more found rtype bytes window rest h e = ap (found_or_has found rtype) (windows_more bytes window rest h e)
    ∙ found_step found rtype window (windows_in rest rest)

pub found_start : (rtype : ℕ) (bytes : List ℕ) → found_or_has false rtype (windows_in bytes bytes) ≡ bitmap_has bytes rtype
unfolding bitmap_has
found_start rtype bytes = elim (windows_in bytes bytes) as (λ w. found_or_has false rtype w ≡ windows_have rtype w)
    [ None ↦ refl | Some w ↦ refl ]

pub found_end : (found : Bool) (rtype : ℕ) (bytes : List ℕ) → length bytes ≡ 0 → found_or_has found rtype (windows_in bytes bytes) ≡ found
found_end true rtype bytes h = ap (found_or_has true rtype) (windows_end bytes h)
found_end false rtype bytes h = ap (found_or_has false rtype) (windows_end bytes h)

pub found_fail : (found : Bool) (rtype : ℕ) (bytes : List ℕ) → 0 < length bytes → window_in bytes ≡ None
    → found_or_has found rtype (windows_in bytes bytes) ≡ false
found_fail found rtype bytes h e = ap (found_or_has found rtype) (windows_fail bytes h e)

rises_step : (last : Option ℕ) (window : Window) (windows : Option (List Window))
    → rises_after last (with_window window windows) ≡ (follows last window.number && rises_after (Some window.number) windows)
rises_step None window None = refl
rises_step (Some last) window None = elim (nat_lt last window.number) as (λ v. false ≡ (v && false)) [ true ↦ refl | false ↦ refl ]
rises_step last window (Some []) = refl
rises_step last window (Some (next ∷ windows)) = refl

pub rises_more : (last : Option ℕ) (bytes : List ℕ) (window : Window) (rest : List ℕ) → 0 < length bytes
    → window_in bytes ≡ Some (window, rest)
    → rises_after last (windows_in bytes bytes) ≡ (follows last window.number && rises_after (Some window.number) (windows_in rest rest))
rises_more last bytes window rest h e = ap (rises_after last) (windows_more bytes window rest h e)
    ∙ rises_step last window (windows_in rest rest)

pub rises_start : (bytes : List ℕ) → rises_after None (windows_in bytes bytes) ≡ is_bitmap bytes
unfolding is_bitmap
rises_start bytes = elim (windows_in bytes bytes) as (λ w. rises_after None w ≡ option_map_or are_rising w false)
    [ None ↦ refl | Some [] ↦ refl | Some (w ∷ ws) ↦ refl ]

pub rises_end : (last : Option ℕ) (bytes : List ℕ) → length bytes ≡ 0 → rises_after last (windows_in bytes bytes) ≡ true
rises_end None bytes h = ap (rises_after None) (windows_end bytes h)
rises_end (Some last) bytes h = ap (rises_after (Some last)) (windows_end bytes h)

pub rises_fail : (last : Option ℕ) (bytes : List ℕ) → 0 < length bytes → window_in bytes ≡ None
    → rises_after last (windows_in bytes bytes) ≡ false
rises_fail None bytes h e = ap (rises_after None) (windows_fail bytes h e)
rises_fail (Some last) bytes h e = ap (rises_after (Some last)) (windows_fail bytes h e)

-- a number that may not come next ends the row
pub rises_stop : (last : Option ℕ) (bytes : List ℕ) (window : Window) (rest : List ℕ) (number : ℕ) → 0 < length bytes
    → window_in bytes ≡ Some (window, rest) → number ≡ window.number → follows last number ≡ false
    → rises_after last (windows_in bytes bytes) ≡ false
rises_stop last bytes window rest number h e n f =
    rises_more last bytes window rest h e
    ∙ ap (λ v. v && rises_after (Some window.number) (windows_in rest rest)) (ap (follows last) (sym n) ∙ f)

-- after a number that may come next the rest decides
pub rises_on : (last : Option ℕ) (bytes : List ℕ) (window : Window) (rest : List ℕ) (number : ℕ) → 0 < length bytes
    → window_in bytes ≡ Some (window, rest) → number ≡ window.number → follows last number ≡ true
    → rises_after last (windows_in bytes bytes) ≡ rises_after (Some number) (windows_in rest rest)
rises_on last bytes window rest number h e n f =
    rises_more last bytes window rest h e
    ∙ (ap (λ v. v && rises_after (Some window.number) (windows_in rest rest)) (ap (follows last) (sym n) ∙ f)
    ∙ ap (λ v. rises_after (Some v) (windows_in rest rest)) (sym n))
