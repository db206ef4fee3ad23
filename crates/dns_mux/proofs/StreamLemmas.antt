-- Streams that give their replies in turn, until nothing comes in time.
use Rattle.std.proofs.Common.{◌≡◌, ◌∙◌, true, false, List, [], ◌∷◌, None, Some, slice_get, drop, refl, ap, subst, cond}
use Rattle.std.specs.Prelude.{not}
use Rattle.std.proofs.lemmas.List.Sums.{take_while-cons}
use Rattle.futures.specs.Runs.{After}
use Rattle.dns_handle.specs.Errors.{Reply}
use Rattle.dns_handle.specs.Replies.{reply_of}
use Rattle.dns_mux.specs.Streams.{Item, is_timeout, before_timeout, YieldsInTurn}

-- after the first reply come the others
pub after_first : (old new : List Reply) (x : Item) → Some (reply_of x) ≡ slice_get old 0 → new ≡ drop 1 old
    → After (YieldsInTurn old) x (YieldsInTurn new)
after_first old new x first left items last gives =
    let P : List Reply → Type 0 = λ replies. YieldsInTurn replies items last in (first, subst P left gives)

same-some : (a b : Reply) → Some a ≡ Some b → a ≡ b
same-some a b same = cc

-- no reply
pub front_none : (replies : List Reply) → slice_get replies 0 ≡ None → before_timeout replies ≡ []
front_none [] none = refl
front_none (r ∷ rest) none = cc

-- the first reply says that nothing came in time
pub front_over : (replies : List Reply) (reply : Reply) → slice_get replies 0 ≡ Some reply → is_timeout reply ≡ true
    → before_timeout replies ≡ []
front_over [] reply first over = cc
front_over (r ∷ rest) reply first over =
    let same : is_timeout r ≡ true = ap is_timeout (same-some r reply first) ∙ over in
    take_while-cons (λ x. not (is_timeout x)) r rest ∙ ap (λ b. cond (not b) (r ∷ before_timeout rest) []) same

-- another first reply
pub front_goes : (replies : List Reply) (reply : Reply) → slice_get replies 0 ≡ Some reply → is_timeout reply ≡ false
    → before_timeout replies ≡ reply ∷ before_timeout (drop 1 replies)
front_goes [] reply first goes = cc
front_goes (r ∷ rest) reply first goes =
    let is : r ≡ reply = same-some r reply first in
    let same : is_timeout r ≡ false = ap is_timeout is ∙ goes in
    take_while-cons (λ x. not (is_timeout x)) r rest ∙ ap (λ b. cond (not b) (r ∷ before_timeout rest) []) same
    ∙ ap (λ x. x ∷ before_timeout rest) is
