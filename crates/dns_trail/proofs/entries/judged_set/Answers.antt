use Rattle.std.proofs.Common.{rules, ◌≡◌, true, false, ap, ◌∙◌}
use Rattle.dns_model.specs.declared.trail.MarkOrigin.TheVariants.{Table, Repeat, Cache}
use Rattle.dns_rules.specs.DerivationParts.{with_entry}
use Rattle.dns_trail.specs.Ended.{some_if}
use Rattle.dns_trail.specs.Entries.{is_entry_of}
use Rattle.dns_trail.specs.StepContexts.{step_context_by}
use Rattle.dns_trail.proofs.EntryLemmas.{entry_given, entry_other}
use Rattle.dns_trail.proofs.OkLemmas.{ok_map}
use Rattle.dns_trail.proofs.entries.judged_set.Goals as goal

pub returns-then-not-is_entry_of : goal.returns-then-not-is_entry_of
returns-then-not-is_entry_of g c =
    let gr = step_context_by g.V.Verifier.answers c.args.context.now in
    let other : is_entry_of c.args.placed c.args.entry.now ≡ false = search rules in
    entry_other gr c.args.placed c.args.entry.now other

pub returns-in-Table : goal.returns-in-Table
returns-in-Table g c =
    let gr = step_context_by g.V.Verifier.answers c.args.context.now in
    let own : is_entry_of c.args.placed c.args.entry.now ≡ true = search rules in
    let origin : c.args.entry.now.origin ≡ Table = search rules in
    ok_map c.judged_by_rules.result
    (λ o h. h ∙ entry_given gr c.args.placed c.args.entry.now Table own origin) c.judged_by_rules.ensures

pub returns-in_ok-repeated-in-Repeat : goal.returns-in_ok-repeated-in-Repeat
returns-in_ok-repeated-in-Repeat g c =
    let gr = step_context_by g.V.Verifier.answers c.args.context.now in
    let own : is_entry_of c.args.placed c.args.entry.now ≡ true = search rules in
    let origin : c.args.entry.now.origin ≡ Repeat c.in-Repeat.number = search rules in
    c.marked_if.ensures
    ∙ ap (λ b. some_if b (with_entry (c.args.placed, c.args.entry.now))) c.in_ok-repeated-in-Repeat.ensures
    ∙ entry_given gr c.args.placed c.args.entry.now (Repeat c.in-Repeat.number) own origin

pub returns-in_ok-served-in-Cache : goal.returns-in_ok-served-in-Cache
returns-in_ok-served-in-Cache g c =
    let gr = step_context_by g.V.Verifier.answers c.args.context.now in
    let own : is_entry_of c.args.placed c.args.entry.now ≡ true = search rules in
    let origin : c.args.entry.now.origin ≡ Cache = search rules in
    c.marked_if-in-Cache.ensures
    ∙ ap (λ b. some_if b (with_entry (c.args.placed, c.args.entry.now))) c.in_ok-served-in-Cache.ensures
    ∙ entry_given gr c.args.placed c.args.entry.now Cache own origin
