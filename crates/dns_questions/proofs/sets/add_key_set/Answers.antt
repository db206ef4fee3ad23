use Rattle.std.proofs.Common.{rules, ◌≡◌, length, List, [], ◌∷◌, ap}
use Rattle.std.proofs.lemmas.List.{nil_from_length}
use Rattle.std.specs.List.{flat_map}
use Rattle.dns_model.specs.Keys.{AcceptedSignatureValue}
use Rattle.dns_model.specs.Records.{Rr}
use Rattle.dns_questions.specs.Gathering.{judge_by}
use Rattle.dns_questions.specs.Questions.{with_keys}
use Rattle.dns_questions.proofs.OnceLemmas.{step_kept, all_kept}
use Rattle.dns_questions.proofs.sets.add_key_set.Goals as goal

pub signatures-preserved : goal.signatures-preserved
signatures-preserved c =
    let f : Rr → List AcceptedSignatureValue = λ r. with_keys (judge_by c.args.context.now) c.args.set.now r c.args.set.now.records in
    let cut : c.signatures.left.now ≡ c.in-Some.sig.now ∷ c.in-Some.more.now = search rules in
    step_kept c.signatures.into c.add_own.new.into _ (f c.in-Some.sig.now) (flat_map f c.signatures.left.now)
    (flat_map f c.in-Some.more.now) (ap (flat_map f) cut) c.in_ok-add_own.ensures c.signatures.invariant

pub returns : goal.returns
returns c =
    let f : Rr → List AcceptedSignatureValue = λ r. with_keys (judge_by c.args.context.now) c.args.set.now r c.args.set.now.records in
    let empty : length c.signatures.left.now ≡ 0 = search rules in
    let none : c.signatures.left.now ≡ [] = nil_from_length c.signatures.left.now empty in
    all_kept c.signatures.into _ (flat_map f c.signatures.left.now) (ap (flat_map f) none) c.signatures.invariant
