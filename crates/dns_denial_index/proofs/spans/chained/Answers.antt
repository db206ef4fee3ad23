use Rattle.std.proofs.Common.{◌≡◌, ℕ, ◌-◌, ◌<◌, Option, None, Some, arith, get_or, length, refl, set, subst, sym}
use Rattle.std.proofs.lemmas.List.{get_or_read}
use Rattle.dns_denial_index.specs.Spans.{start_of}
use Rattle.dns_denial_index.specs.Stack.{AreChained}
use Rattle.dns_denial_index.proofs.Chains.{chained_none, chained_more}
use Rattle.dns_denial_index.proofs.spans.chained.Goals as goal

pub spans-init : goal.spans-init
spans-init c = (
  omega arith,
  chained_none c.args.spans.now (length c.args.spans.now) c.args.places c.in_ok-first.first.items
      c.in_ok-following.following.items
      refl c.in_ok-first.ensures c.in_ok-following.ensures,
)

pub offset_bounds-spans-number : goal.offset_bounds-spans-number
offset_bounds-spans-number c = omega (arith, c.spans.invariant.0, c.requires.few)

pub bounds-spans-number : goal.bounds-spans-number
bounds-spans-number c = omega (arith, c.spans.invariant.0, c.spans-test.true)

pub index-requires : goal.index-requires
index-requires c =
    let within : c.spans.number - 1 < length c.args.spans.now = omega (arith, c.spans.invariant.0, c.spans-test.true) in
    omega (arith, c.requires.inside.starts (c.spans.number - 1) within, c.spans.invariant.1.wide, c.spans.first.ok.0)

pub index_mut-requires : goal.index_mut-requires
index_mut-requires c =
    omega (arith, c.spans.invariant.0, c.spans-test.true, c.spans.invariant.1.long, c.spans.following.ok.0)

pub overflow_cast-number : goal.overflow_cast-number
overflow_cast-number c = omega (arith, c.spans.invariant.0, c.requires.few)

pub index_mut-requires-in-spans : goal.index_mut-requires-in-spans
index_mut-requires-in-spans c =
    let within : c.spans.number - 1 < length c.args.spans.now = omega (arith, c.spans.invariant.0, c.spans-test.true) in
    omega (arith, c.requires.inside.starts (c.spans.number - 1) within, c.spans.invariant.1.wide, c.spans.first.ok.0)

pub spans-preserved : goal.spans-preserved
spans-preserved c =
    let spans = c.args.spans.now in
    let number = c.spans.number - 1 in
    let first = c.spans.first.items in
    let within : number < length spans = omega (arith, c.spans.invariant.0, c.spans-test.true) in
    let inside : start_of spans number < c.args.places = c.requires.inside.starts number within in
    let read : c.index.result.now ≡ get_or first (start_of spans number) None =
    get_or_read first (start_of spans number) c.index.result.now (omega (arith, inside, c.spans.invariant.1.wide))
    c.index.ensures None in (
      omega (arith, c.spans.invariant.0),
      subst (λ (next : Option ℕ). AreChained spans number c.args.places
          (set first (start_of spans number) (Some number))
          (set c.spans.following.items number next)) (sym read)
          (chained_more spans c.spans.number number c.args.places first c.spans.following.items c.spans.invariant.1
          (omega (arith, c.spans-test.true)) within inside),
    )
