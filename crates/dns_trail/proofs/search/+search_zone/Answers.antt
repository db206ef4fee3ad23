use Rattle.std.proofs.Common.{rules, ◌≡◌, true, false, [], ◌∷◌, length, sym, ap, ◌∙◌}
use Rattle.std.specs.Option.{option_map}
use Rattle.dns_rules.specs.Derivation.{is_plain_ask, search_by}
use Rattle.dns_rules.specs.Unsigned.{ns_question}
use Rattle.dns_trust.specs.Searching.{probe_value}
use Rattle.dns_trail.specs.StepContexts.{step_context_by}
use Rattle.dns_trail.specs.Trying.{zone_proof}
use Rattle.dns_trail.proofs.OkLemmas.{named_if, no_more, ok_map}
use Rattle.dns_trail.proofs.ZoneLemmas.{cut_proof, onward_proof, other_proof, root_proof, unasked_proof, unseen_proof}
use Rattle.dns_trail.proofs.search.+search_zone.Goals as goal

pub returns-then-is_root : goal.returns-then-is_root
returns-then-is_root g t c =
    let gr = step_context_by g.V.Verifier.answers c.args.context.now in
    let root : c.args.name.now ≡ [] = search rules in
    λ start. c.bogus_if_last.ensures ∙ root_proof gr c.args.class.0 start c.args.name.now c.args.asks.now root

pub returns-in_default : goal.returns-in_default
returns-in_default g t c =
    let gr = step_context_by g.V.Verifier.answers c.args.context.now in
    let named = named_if c.is_root.result _ c.is_root.ensures c.if-is_root.false in
    let long : length c.args.asks.now ≡ 0 = search rules in
    let none = no_more c.args.asks.now long in
    λ start. unasked_proof gr c.args.class.0 start c.args.name.now c.args.asks.now named none

pub returns-then-not-is_plain_ask : goal.returns-then-not-is_plain_ask
returns-then-not-is_plain_ask g t c =
    let gr = step_context_by g.V.Verifier.answers c.args.context.now in
    let named = named_if c.is_root.result _ c.is_root.ensures c.if-is_root.false in
    let first : c.args.asks.now ≡ c.in-Some.ask.now ∷ c.in-Some.left.now = search rules in
    let plain : is_plain_ask gr.earlier gr.depth (ns_question c.args.class.0 c.args.name.now) c.in-Some.ask.now ≡ false = search rules in
    λ start. other_proof gr c.args.class.0 start c.args.name.now c.args.asks.now c.in-Some.ask.now c.in-Some.left.now named first plain

pub returns-in-Found : goal.returns-in-Found
returns-in-Found g t c =
    let gr = step_context_by g.V.Verifier.answers c.args.context.now in
    let named = named_if c.is_root.result _ c.is_root.ensures c.if-is_root.false in
    let first : c.args.asks.now ≡ c.in-Some.ask.now ∷ c.in-Some.left.now = search rules in
    let plain : is_plain_ask gr.earlier gr.depth (ns_question c.args.class.0 c.args.name.now) c.in-Some.ask.now ≡ true =
    search rules in
    let sees = sym c.probe_by.ensures ∙ ap probe_value c.in-Found.is in
    ok_map c.ask_zone.result
    (λ m h start. h ∙ cut_proof gr c.args.class.0 start c.args.name.now c.args.asks.now c.in-Some.ask.now c.in-Some.left.now
    named first plain sees)
    c.ask_zone.ensures

pub returns-in_ok-above-in-Absent : goal.returns-in_ok-above-in-Absent
returns-in_ok-above-in-Absent g t c =
    let gr = step_context_by g.V.Verifier.answers c.args.context.now in
    let named = named_if c.is_root.result _ c.is_root.ensures c.if-is_root.false in
    let first : c.args.asks.now ≡ c.in-Some.ask.now ∷ c.in-Some.left.now = search rules in
    let plain : is_plain_ask gr.earlier gr.depth (ns_question c.args.class.0 c.args.name.now) c.in-Some.ask.now ≡ true =
    search rules in
    let sees = sym c.probe_by.ensures ∙ ap probe_value c.in-Absent.is in
    ok_map c.search_zone.result
    (λ m h start.
    h start
    ∙ ap (λ n. option_map zone_proof (search_by gr c.args.class.0 start n c.in-Some.left.now)) c.in_ok-above-in-Absent.ensures
    ∙ onward_proof gr c.args.class.0 start c.args.name.now c.args.asks.now c.in-Some.ask.now c.in-Some.left.now named first plain sees)
    c.search_zone.ensures

pub returns-in-Failed : goal.returns-in-Failed
returns-in-Failed g t c =
    let gr = step_context_by g.V.Verifier.answers c.args.context.now in
    let named = named_if c.is_root.result _ c.is_root.ensures c.if-is_root.false in
    let first : c.args.asks.now ≡ c.in-Some.ask.now ∷ c.in-Some.left.now = search rules in
    let plain : is_plain_ask gr.earlier gr.depth (ns_question c.args.class.0 c.args.name.now) c.in-Some.ask.now ≡ true =
    search rules in
    let sees = sym c.probe_by.ensures ∙ ap probe_value c.in-Failed.is in
    λ start.
    c.bogus_if_last-in-Failed.ensures
    ∙ unseen_proof gr c.args.class.0 start c.args.name.now c.args.asks.now c.in-Some.ask.now c.in-Some.left.now named first plain sees
