-- What an answer without a DS set of a zone leaves to the unsigned sets in it.
use Rattle.std.proofs.Common.{◌≡◌, Bool, true, false, ◌||◌, List, [], ◌∷◌, refl, sym, ap, ◌∙◌}
use Rattle.std.specs.Prelude.{if◌then◌else◌}
use Rattle.std.specs.List.{list_any}
use Rattle.dns_model.specs.declared.proof.Proof.TheVariants as proof
use Rattle.dns_model.specs.Names.{Labels}
use Rattle.dns_model.proofs.TestLemmas.{or_twice}
use Rattle.dns_rules.specs.MarkedSets.{MarkedSet}
use Rattle.dns_rules.specs.ProofErrors.{DsRecordShouldExist, DsResponseInsecure}
use Rattle.dns_rules.specs.Delegations.{Insecure, Bogus, shows_no_ds, shows_no_ds_by_hash, is_insecure_above, verdict_without_ds}
use Rattle.dns_rules.specs.Unsigned.{unsigned_mark}
use Rattle.dns_rules.specs.ChainedSets.{ChainedSet, bare}

any_bare : (test : MarkedSet → Bool) (answer : List ChainedSet) → list_any (λ c. test c.judged) answer ≡ list_any test (bare answer)
any_bare test [] = refl
any_bare test (c ∷ cs) = ap (λ b. test c.judged || b) (any_bare test cs)

insecure_if : (zone : Labels) (b : Bool)
    → (if b then proof.Insecure else proof.Bogus)
    ≡ (unsigned_mark (if b then Insecure (DsResponseInsecure zone) else Bogus (DsRecordShouldExist zone))).mark
insecure_if zone true = refl
insecure_if zone false = refl

any_either : (p q : ChainedSet → Bool) (answer : List ChainedSet)
    → list_any (λ c. p c || q c) answer ≡ (list_any p answer || list_any q answer)
any_either p q [] = refl
any_either p q (c ∷ cs) = ap (λ b. (p c || q c) || b) (any_either p q cs) ∙ or_twice (p c) (q c) (list_any p cs) (list_any q cs)

shown_or_above : (zone : Labels) (answer : List ChainedSet)
    → list_any (λ c. shows_no_ds zone c.judged || is_insecure_above zone c.judged) answer
    ≡ (list_any (shows_no_ds zone) (bare answer) || list_any (is_insecure_above zone) (bare answer))
shown_or_above zone answer =
    any_either (λ c. shows_no_ds zone c.judged) (λ c. is_insecure_above zone c.judged) answer
    ∙ ap (λ x. x || list_any (λ c. is_insecure_above zone c.judged) answer) (any_bare (shows_no_ds zone) answer)
    ∙ ap (λ x. list_any (shows_no_ds zone) (bare answer) || x) (any_bare (is_insecure_above zone) answer)

either_true : (shown hashed above : Bool) → (shown || above) ≡ true → (shown || (hashed || above)) ≡ true
either_true true hashed above h = refl
either_true false true above h = refl
either_true false false above h = h

either_false : (shown hashed above : Bool) → (shown || above) ≡ false → (shown || (hashed || above)) ≡ hashed
either_false true hashed above h = cc
either_false false true above h = refl
either_false false false above h = h

-- by what it shows without hashes
pub mark_shown : (zone : Labels) (answer : List ChainedSet)
    → list_any (λ c. shows_no_ds zone c.judged || is_insecure_above zone c.judged) answer ≡ true
    → proof.Insecure ≡ (unsigned_mark (verdict_without_ds zone (bare answer))).mark
mark_shown zone answer is =
    let shown = list_any (shows_no_ds zone) (bare answer) in
    let hashed = shows_no_ds_by_hash zone (bare answer) in
    let above = list_any (is_insecure_above zone) (bare answer) in
    ap (λ b. if b then proof.Insecure else proof.Bogus) (sym (either_true shown hashed above (sym (shown_or_above zone answer) ∙ is)))
    ∙ insecure_if zone (shown || (hashed || above))

-- and else by hashes
pub mark_hashed : (zone : Labels) (answer : List ChainedSet)
    → list_any (λ c. shows_no_ds zone c.judged || is_insecure_above zone c.judged) answer ≡ false
    → (if shows_no_ds_by_hash zone (bare answer) then proof.Insecure else proof.Bogus)
    ≡ (unsigned_mark (verdict_without_ds zone (bare answer))).mark
mark_hashed zone answer not_shown =
    let shown = list_any (shows_no_ds zone) (bare answer) in
    let hashed = shows_no_ds_by_hash zone (bare answer) in
    let above = list_any (is_insecure_above zone) (bare answer) in
    ap (λ b. if b then proof.Insecure
    else proof.Bogus) (sym (either_false shown hashed above (sym (shown_or_above zone answer) ∙ not_shown)))
    ∙ insecure_if zone (shown || (hashed || above))
