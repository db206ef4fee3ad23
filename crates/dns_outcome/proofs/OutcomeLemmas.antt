-- How a judged step ends.
use Rattle.std.proofs.Common.{◌≡◌, Bool, true, false, List, ◌++◌, None, Some, refl, ap, ◌∙◌}
use Rattle.std.specs.List.{find}
use Rattle.std.specs.Option.{option_or}
use Rattle.std.proofs.lemmas.List.Folds.{find-append}
use Rattle.dns_model.specs.declared.proof.Proof.{Proof}
use Rattle.dns_model.specs.declared.proof.Proof.TheVariants.{Bogus}
use Rattle.dns_model.specs.Records.{Question}
use Rattle.dns_model.specs.SoundAnswers.{Told}
use Rattle.dns_rules.specs.Delegations as zone
use Rattle.dns_rules.specs.Delegations.{ZoneVerdict, Signed, is_insecure}
use Rattle.dns_rules.specs.Unsigned.{unsigned_mark}
use Rattle.dns_rules.specs.Outcome.{Denied, insecure_answer, outcome_by_zone}

-- by the zone of its query: the mark that it leaves to what is unsigned tells whether it excuses

pub ends_insecure : (q : Question) (told : Told) (verdict : ZoneVerdict) (mark : Proof) → is_insecure mark ≡ true
    → is_insecure mark ≡ is_insecure (unsigned_mark verdict).mark → outcome_by_zone q told verdict ≡ insecure_answer q told
ends_insecure q told (Signed ds) mark h e = cc
ends_insecure q told (zone.Insecure kind) mark h e = refl
ends_insecure q told (zone.Bogus kind) mark h e = cc

pub ends_denied : (q : Question) (told : Told) (verdict : ZoneVerdict) (mark : Proof) → is_insecure mark ≡ false
    → is_insecure mark ≡ is_insecure (unsigned_mark verdict).mark → outcome_by_zone q told verdict ≡ Denied Bogus
ends_denied q told (Signed ds) mark h e = refl
ends_denied q told (zone.Insecure kind) mark h e = cc
ends_denied q told (zone.Bogus kind) mark h e = refl

-- ---- the first of some records that are in two parts

pub found_before : {X : Type 0} (test : X → Bool) (xs ys : List X) (x : X) → find test xs ≡ Some x
    → find test (xs ++ ys) ≡ Some x
found_before test xs ys x is = find-append test xs ys ∙ ap (λ o. option_or o (find test ys)) is

pub found_behind : {X : Type 0} (test : X → Bool) (xs ys : List X) → find test xs ≡ None
    → find test (xs ++ ys) ≡ find test ys
found_behind test xs ys none = find-append test xs ys ∙ ap (λ o. option_or o (find test ys)) none
