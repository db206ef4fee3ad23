use Rattle.std.proofs.Common.{length, map, ap, ◌∙◌}
use Rattle.std.specs.Option.{option_map}
use Rattle.dns_cache.specs.Kinds.{kind_value}
use Rattle.dns_validation.specs.Machine.{SoFar, StateValue}
use Rattle.dns_validation.specs.Terms.{terms_of}
use Rattle.dns_validation.proofs.KeepLemmas.{on_kept}
use Rattle.dns_validation.proofs.keeping.keep.Goals as goal

pub returns : goal.returns
returns g c =
    let count =
    c.in_ok-number.ensures
    ∙ ap length (c.deref.ensures.value ∙ ap (λ (s : StateValue). s.closed) c.state.view_is) in
    let query = ap (λ (s : SoFar). s.query) c.so_far.view_is in
    let sets = c.deref-2.ensures.value ∙ ap (λ (s : SoFar). s.sets) c.so_far.view_is in
    let causes =
    ap (map (option_map kind_value)) c.deref-3.ensures.value ∙ ap (λ (s : SoFar). s.causes) c.so_far.view_is in
    on_kept (terms_of g.V.Verifier.answers c.args.context.now) c.args.so_far.now c.args.state.now _ _ _ count query sets
    causes c.keep_sets.ensures
