-- What follows of a result where it is one, and of the root.
use Rattle.std.proofs.Common.{◌≡◌, ◌≢◌, ◌↔◌, IsTrue, Bool, true, false, List, [], ◌∷◌, ◌++◌, map, Option, None, Some, Result, Ok, Err, refl, ap, ◌∙◌}
use Rattle.std.specs.Option.{option_map}
use Rattle.std.proofs.lemmas.List.{map-append}
use Rattle.dns_rules.specs.ChainedSets.{ChainedSet, bare, bare_verdicts}
use Rattle.dns_trust.specs.Verdicts.{verdict_value}
use Rattle.dns_trust.specs.declared.verdict.Verdict.{Verdict}
use Rattle.dns_trail.specs.Ended.{some_if}
use Rattle.std.specs.Prelude.{IfOk}
pub use Rattle.std.proofs.lemmas.List.{nil_from_length as no_more}
use Rattle.dns_model.specs.Names.{Labels}

pub ok_map : {X E : Type 0} {P Q : X → Type 0} (r : Result X E) → ((x : X) → P x → Q x) → IfOk r P → IfOk r Q
ok_map (Ok x) f h = f x h
ok_map (Err e) f h = tt

pub named_if : (b : Bool) (name : Labels) → IsTrue b ↔ (name ≡ []) → b ≡ false → name ≢ []
named_if true name is named = cc
named_if false name is named = λ root. let no : false ≡ true = is.1 root in cc

-- what is seen of a value, seen further
pub seen_further : {V A B : Type 0} (see : V → A) (f : A → B) (o : Option V) (b : Bool) (x : A)
    → option_map see o ≡ some_if b x
    → option_map (λ v. f (see v)) o ≡ some_if b (f x)
seen_further see f None true x h = cc
seen_further see f None false x h = refl
seen_further see f (Some v) true x h = let same : see v ≡ x = cc in ap (λ y. Some (f y)) same
seen_further see f (Some v) false x h = cc

-- a verdict more
pub bare_more : (vs : List Verdict) (v : Verdict)
    → bare_verdicts (map verdict_value (vs ++ v ∷ [])) ≡ bare_verdicts (map verdict_value vs) ++ (verdict_value v).verdict ∷ []
bare_more vs v =
    ap bare_verdicts (map-append verdict_value vs (v ∷ []))
    ∙ map-append (λ w. w.verdict) (map verdict_value vs) (verdict_value v ∷ [])

-- a set more
pub bare_set_more : (cs : List ChainedSet) (c : ChainedSet) → bare (cs ++ c ∷ []) ≡ bare cs ++ c.judged ∷ []
bare_set_more cs c = map-append (λ x. x.judged) cs (c ∷ [])
