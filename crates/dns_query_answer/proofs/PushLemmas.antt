-- Texts that are appended one after another.
use Rattle.std.proofs.Common.{◌≡◌, ◌∙◌, ℕ, List, ◌∷◌, ◌++◌, Result, OnOk, sym, ap, append_assoc}
use Rattle.std.proofs.lemmas.Result.{on_ok_weaker}
use Rattle.dns_model.specs.Trails.{AskedValue}
use Rattle.dns_query_answer.specs.CauseWords.{cause_words}
use Rattle.dns_query_answer.specs.Places.{Explained, Place, origin_place}
use Rattle.dns_query_answer.specs.Reasons.{origin_words, reason_words}

-- two behind a text are both behind it
pub pushed : {T E : Type 0} (r : Result T E) (x y z a b : List ℕ) → y ≡ x ++ a → OnOk r (z ≡ y ++ b)
    → OnOk r (z ≡ x ++ (a ++ b))
pushed r x y z a b first last =
    on_ok_weaker r (λ second. second ∙ ap (λ l. l ++ b) first ∙ append_assoc x a b) last

-- the cause of a set and what it stands on are the reason
pub pushed_reason : {T E : Type 0} (r : Result T E) (x y z : List ℕ) (steps left : List AskedValue) (step : AskedValue)
    (g : Explained) (p q : Place) → steps ≡ step ∷ left → q ≡ origin_place g p → y ≡ x ++ cause_words p
    → OnOk r (z ≡ y ++ origin_words g q (reason_words left g)) → OnOk r (z ≡ x ++ reason_words steps g p)
unfolding reason_words
pushed_reason r x y z steps left step g p q cut same first last =
    on_ok_weaker r
    (λ second. second ∙ ap (λ l. l ++ origin_words g q (reason_words left g)) first
    ∙ append_assoc x (cause_words p) (origin_words g q (reason_words left g))
    ∙ ap (λ o. x ++ (cause_words p ++ origin_words g o (reason_words left g))) same
    ∙ ap (λ s. x ++ reason_words s g p) (sym cut))
    last
