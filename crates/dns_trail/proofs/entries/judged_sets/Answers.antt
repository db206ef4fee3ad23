use Rattle.std.proofs.Common.{rules, ◌≡◌, ◌≢◌, List, [], ◌∷◌, length, sym, ap, ◌∙◌, subst}
use Rattle.dns_rules.specs.ChainedSets.{bare}
use Rattle.dns_rules.specs.MarkedSets.{MarkedSet}
use Rattle.dns_trail.specs.Entries.{judged_if}
use Rattle.dns_trail.specs.StepContexts.{step_context_by}
use Rattle.dns_trail.proofs.EntryLemmas.{AreLeft, left_alone, left_next, left_none, left_over, left_refused}
use Rattle.dns_trail.proofs.OkLemmas.{bare_set_more, no_more}
use Rattle.dns_trail.proofs.entries.judged_sets.Goals as goal

pub returns-in_default-split_first : goal.returns-in_default-split_first
returns-in_default-split_first g c =
    let gr = step_context_by g.V.Verifier.answers c.args.context.now in
    let p0 = c.args.placed.items in
    let e0 = c.args.entries.now in
    let sets = bare c.sets.sets.items in
    let less = c.in-Some.ensures.items in
    let long : length c.sets.entries.now ≡ 0 = search rules in
    left_alone gr p0 c.sets.placed.items c.pop.new.self.items c.in-Some.next e0 c.sets.entries.now sets c.sets.invariant
    less (no_more c.sets.entries.now long)

pub returns-in_default-2 : goal.returns-in_default-2
returns-in_default-2 g c =
    let gr = step_context_by g.V.Verifier.answers c.args.context.now in
    let p0 = c.args.placed.items in
    let e0 = c.args.entries.now in
    let sets = bare c.sets.sets.items in
    let less = c.in-Some.ensures.items in
    let first : c.sets.entries.now ≡ c.in-Some-split_first.entry.now ∷ c.in-Some-split_first.others.now =
    search rules in
    left_refused gr p0 c.sets.placed.items c.pop.new.self.items c.in-Some.next e0 c.sets.entries.now
    c.in-Some-split_first.others.now c.in-Some-split_first.entry.now sets
    c.sets.invariant less first (sym (ap judged_if c.in_default-2.is) ∙ c.in_ok-set.ensures)

pub sets-preserved : goal.sets-preserved
sets-preserved g c =
    let gr = step_context_by g.V.Verifier.answers c.args.context.now in
    let p0 = c.args.placed.items in
    let e0 = c.args.entries.now in
    let sets = bare c.sets.sets.items in
    let less = c.in-Some.ensures.items in
    let first : c.sets.entries.now ≡ c.in-Some-split_first.entry.now ∷ c.in-Some-split_first.others.now =
    search rules in
    let P : List MarkedSet → Type 0 = λ xs. AreLeft gr p0 c.pop.new.self.items e0 c.in-Some-split_first.others.now xs in
    subst P (sym (ap bare c.in_ok-push.ensures.items ∙ bare_set_more c.sets.sets.items c.in-Some-2.set))
    (left_next gr p0 c.sets.placed.items c.pop.new.self.items c.in-Some.next e0 c.sets.entries.now
    c.in-Some-split_first.others.now c.in-Some-split_first.entry.now sets
    c.in-Some-2.set.judged c.sets.invariant less first (sym (ap judged_if c.in-Some-2.is) ∙ c.in_ok-set.ensures))

pub returns-then-is_empty : goal.returns-then-is_empty
returns-then-is_empty g c =
    let gr = step_context_by g.V.Verifier.answers c.args.context.now in
    let none : c.sets.placed.items ≡ [] = search rules in
    let long : length c.sets.entries.now ≡ 0 = search rules in
    left_none gr c.args.placed.items c.sets.placed.items c.args.entries.now c.sets.entries.now
    (bare c.sets.sets.items) c.sets.invariant none (no_more c.sets.entries.now long)

pub returns : goal.returns
returns g c =
    let gr = step_context_by g.V.Verifier.answers c.args.context.now in
    let none : c.sets.placed.items ≡ [] = search rules in
    let more : length c.sets.entries.now ≢ 0 = search rules in
    left_over gr c.args.placed.items c.sets.placed.items c.args.entries.now c.sets.entries.now
    (bare c.sets.sets.items) c.sets.invariant none more
