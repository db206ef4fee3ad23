-- Words of a line: one in front of others, and so many of them.
use Rattle.std.proofs.Common.{◌≡◌, ℕ, List, [], ◌∷◌, Option, Some, ap, ◌∙◌}
use Rattle.std.specs.Cmp.Lexicographic.{bytes_decides}
use Rattle.std.proofs.lemmas.Option.{same_Some}
use Rattle.dns_model.specs.Keys.{bytes_eq}
use Rattle.dns_model.specs.OptionSteps.{◌>>=◌}
use Rattle.dns_session.specs.Lines.{Words, after, single, double, triple, quadruple}
use Rattle.dns_audit.specs.LineParts.{quintuple, sextuple, first_of, two_of, three_of, four_of, six_of}
use Rattle.dns_audit.proofs.FromSteps.{made, passed}

pub after_is : (word : List ℕ) (ws rest : Words) → after word ws ≡ Some rest → ws ≡ word ∷ rest
after_is word [] rest h = cc
after_is word (w ∷ ws) rest h =
    let ok = passed (bytes_eq w word) ws rest h in
    ap (λ v. v ∷ ws) ((bytes_decides w word).0 ok.0) ∙ ap (λ r. word ∷ r) ok.1

pub record After {X : Type 0} (word : List ℕ) (ws : Words) (then : Words → Option X) (x : X) : Type 0 where
  pub rest : Words
  pub is : ws ≡ word ∷ rest
  pub gives : then rest ≡ Some x

pub after_from : {X : Type 0} (word : List ℕ) (ws : Words) (then : Words → Option X) (x : X)
    → after word ws >>= then ≡ Some x
    → After word ws then x
after_from word ws then x h =
    let m = made (after word ws) then x h in
    record { rest = m.value; is = after_is word ws m.value m.was; gives = m.gives }

pub single_is : (ws : Words) (a : List ℕ) → single ws ≡ Some a → ws ≡ a ∷ []
single_is [] a h = cc
single_is (w ∷ []) a h = ap (λ v. v ∷ []) (same_Some w a h)
single_is (w ∷ v ∷ ws) a h = cc

pub double_is : (ws : Words) (f : List ℕ × List ℕ) → double ws ≡ Some f → ws ≡ f.0 ∷ f.1 ∷ []
double_is [] f h = cc
double_is (w ∷ ws) f h =
    let m = made (single ws) _ f h in
    ap (λ vs. w ∷ vs) (single_is ws m.value m.was)
    ∙ ap (λ (f : List ℕ × List ℕ). f.0 ∷ f.1 ∷ []) (same_Some _ f m.gives)

pub triple_is : (ws : Words) (f : List ℕ × List ℕ × List ℕ) → triple ws ≡ Some f → ws ≡ f.0 ∷ f.1 ∷ f.2 ∷ []
triple_is [] f h = cc
triple_is (w ∷ ws) f h =
    let m = made (double ws) _ f h in
    ap (λ vs. w ∷ vs) (double_is ws m.value m.was)
    ∙ ap (λ (f : List ℕ × List ℕ × List ℕ). f.0 ∷ f.1 ∷ f.2 ∷ []) (same_Some _ f m.gives)

pub quadruple_is : (ws : Words) (f : List ℕ × List ℕ × List ℕ × List ℕ) → quadruple ws ≡ Some f
    → ws ≡ f.0 ∷ f.1 ∷ f.2 ∷ f.3 ∷ []
quadruple_is [] f h = cc
quadruple_is (w ∷ ws) f h =
    let m = made (triple ws) _ f h in
    ap (λ vs. w ∷ vs) (triple_is ws m.value m.was)
    ∙ ap (λ (f : List ℕ × List ℕ × List ℕ × List ℕ). f.0 ∷ f.1 ∷ f.2 ∷ f.3 ∷ []) (same_Some _ f m.gives)

pub quintuple_is : (ws : Words) (f : List ℕ × List ℕ × List ℕ × List ℕ × List ℕ) → quintuple ws ≡ Some f
    → ws ≡ f.0 ∷ f.1 ∷ f.2 ∷ f.3 ∷ f.4 ∷ []
quintuple_is [] f h = cc
quintuple_is (w ∷ ws) f h =
    let m = made (quadruple ws) _ f h in
    ap (λ vs. w ∷ vs) (quadruple_is ws m.value m.was)
    ∙ ap (λ (f : List ℕ × List ℕ × List ℕ × List ℕ × List ℕ). f.0 ∷ f.1 ∷ f.2 ∷ f.3 ∷ f.4 ∷ []) (same_Some _ f m.gives)

pub sextuple_is : (ws : Words) (f : List ℕ × List ℕ × List ℕ × List ℕ × List ℕ × List ℕ) → sextuple ws ≡ Some f
    → ws ≡ f.0 ∷ f.1 ∷ f.2 ∷ f.3 ∷ f.4 ∷ f.5 ∷ []
sextuple_is [] f h = cc
sextuple_is (w ∷ ws) f h =
    let m = made (quintuple ws) _ f h in
    ap (λ vs. w ∷ vs) (quintuple_is ws m.value m.was)
    ∙ ap (λ (f : List ℕ × List ℕ × List ℕ × List ℕ × List ℕ × List ℕ). f.0 ∷ f.1 ∷ f.2 ∷ f.3 ∷ f.4 ∷ f.5 ∷ [])
    (same_Some _ f m.gives)

pub first_is : (ws : Words) (f : List ℕ × Words) → first_of ws ≡ Some f → ws ≡ f.0 ∷ f.1
first_is [] f h = cc
first_is (w ∷ ws) f h = ap (λ (f : List ℕ × Words). f.0 ∷ f.1) (same_Some (w, ws) f h)

pub two_is : (ws : Words) (f : List ℕ × List ℕ × Words) → two_of ws ≡ Some f → ws ≡ f.0 ∷ f.1 ∷ f.2
two_is [] f h = cc
two_is (w ∷ ws) f h =
    let m = made (first_of ws) _ f h in
    ap (λ vs. w ∷ vs) (first_is ws m.value m.was)
    ∙ ap (λ (f : List ℕ × List ℕ × Words). f.0 ∷ f.1 ∷ f.2) (same_Some _ f m.gives)

pub three_is : (ws : Words) (f : List ℕ × List ℕ × List ℕ × Words) → three_of ws ≡ Some f → ws ≡ f.0 ∷ f.1 ∷ f.2 ∷ f.3
three_is [] f h = cc
three_is (w ∷ ws) f h =
    let m = made (two_of ws) _ f h in
    ap (λ vs. w ∷ vs) (two_is ws m.value m.was)
    ∙ ap (λ (f : List ℕ × List ℕ × List ℕ × Words). f.0 ∷ f.1 ∷ f.2 ∷ f.3) (same_Some _ f m.gives)

pub four_is : (ws : Words) (f : List ℕ × List ℕ × List ℕ × List ℕ × Words) → four_of ws ≡ Some f
    → ws ≡ f.0 ∷ f.1 ∷ f.2 ∷ f.3 ∷ f.4
four_is [] f h = cc
four_is (w ∷ ws) f h =
    let m = made (three_of ws) _ f h in
    ap (λ vs. w ∷ vs) (three_is ws m.value m.was)
    ∙ ap (λ (f : List ℕ × List ℕ × List ℕ × List ℕ × Words). f.0 ∷ f.1 ∷ f.2 ∷ f.3 ∷ f.4) (same_Some _ f m.gives)

pub six_is : (ws : Words) (f : List ℕ × List ℕ × List ℕ × List ℕ × List ℕ × List ℕ × Words) → six_of ws ≡ Some f
    → ws ≡ f.0 ∷ f.1 ∷ f.2 ∷ f.3 ∷ f.4 ∷ f.5 ∷ f.6
six_is ws f h =
    let front = made (two_of ws) _ f h in
    let more = made (four_of front.value.2) _ f front.gives in
    two_is ws front.value front.was
    ∙ ap (λ vs. front.value.0 ∷ front.value.1 ∷ vs) (four_is front.value.2 more.value more.was)
    ∙ ap (λ (f : List ℕ × List ℕ × List ℕ × List ℕ × List ℕ × List ℕ × Words). f.0 ∷ f.1 ∷ f.2 ∷ f.3 ∷ f.4 ∷ f.5 ∷ f.6)
    (same_Some _ f more.gives)
