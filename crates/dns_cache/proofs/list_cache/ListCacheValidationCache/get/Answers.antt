use Rattle.std.proofs.Common.{◌≡◌, Some, None, sym, ap, ◌∙◌, subst}
use Rattle.std.specs.Prelude.{find, position}
use Rattle.dns_cache.specs.CacheLists.{CountedList, IsCacheList, after_get, hit, is_hit}
use Rattle.dns_cache.proofs.ListLemmas.{find_passes, found_at, found_nowhere, got, hit_at, is_list-got, nothing_moves}
use Rattle.dns_cache.proofs.list_cache.ListCacheValidationCache.get.Goals as goal

pub invariant_of-self : goal.invariant_of-self
invariant_of-self c =
    let at = hit_at c.args.key.now c.args.now c.self.inside.entries.items c.deref.result.now c.hit_place.result c.in-Some.place
    c.in_ok-found-in-Some.found c.index.result.now c.deref.ensures.value c.hit_place.ensures c.in-Some.is
    c.in_ok-found-in-Some.ensures c.index.ensures in
    subst IsCacheList
    (sym (got c.args.key.now c.args.now c.self.inside.entries.items c.move_to_front.new.entries.items c.self.inside.capacity c.in-Some.place
    c.in_ok-found-in-Some.found c.self.invariant.distinct at.0 at.1 c.move_to_front.ensures))
    (is_list-got c.args.key.now c.args.now (record { entries = c.self.inside.entries.items; capacity = c.self.inside.capacity })
    c.self.invariant)

pub returns-in_ok-found-in-Some-clause-given : goal.returns-in_ok-found-in-Some-clause-given
returns-in_ok-found-in-Some-clause-given c =
    let at = hit_at c.args.key.now c.args.now c.self.inside.entries.items c.deref.result.now c.hit_place.result c.in-Some.place
    c.in_ok-found-in-Some.found c.index.result.now c.deref.ensures.value c.hit_place.ensures c.in-Some.is
    c.in_ok-found-in-Some.ensures c.index.ensures in
    find_passes (is_hit c.args.key.now c.args.now) c.self.inside.entries.items c.in_ok-found-in-Some.found
    (found_at (is_hit c.args.key.now c.args.now) c.self.inside.entries.items c.in-Some.place c.in_ok-found-in-Some.found at.0 at.1)

pub returns-in_ok-found-in-Some-clause-found : goal.returns-in_ok-found-in-Some-clause-found
returns-in_ok-found-in-Some-clause-found c =
    let at = hit_at c.args.key.now c.args.now c.self.inside.entries.items c.deref.result.now c.hit_place.result c.in-Some.place
    c.in_ok-found-in-Some.found c.index.result.now c.deref.ensures.value c.hit_place.ensures c.in-Some.is
    c.in_ok-found-in-Some.ensures c.index.ensures in
    sym (found_at (is_hit c.args.key.now c.args.now) c.self.inside.entries.items c.in-Some.place c.in_ok-found-in-Some.found at.0 at.1)
    ∙ ap (λ (v : CountedList). hit c.args.key.now c.args.now v.list) c.self.view_is

pub returns-in_ok-found-in-Some-clause-after : goal.returns-in_ok-found-in-Some-clause-after
returns-in_ok-found-in-Some-clause-after c =
    let at = hit_at c.args.key.now c.args.now c.self.inside.entries.items c.deref.result.now c.hit_place.result c.in-Some.place
    c.in_ok-found-in-Some.found c.index.result.now c.deref.ensures.value c.hit_place.ensures c.in-Some.is
    c.in_ok-found-in-Some.ensures c.index.ensures in
    ap Some
    (got c.args.key.now c.args.now c.self.inside.entries.items c.move_to_front.new.entries.items c.self.inside.capacity c.in-Some.place
    c.in_ok-found-in-Some.found c.self.invariant.distinct at.0 at.1 c.move_to_front.ensures
    ∙ ap (λ (v : CountedList). after_get c.args.key.now c.args.now v.list) c.self.view_is)

pub returns-in_ok-found-in-Some-clause-listed : goal.returns-in_ok-found-in-Some-clause-listed
returns-in_ok-found-in-Some-clause-listed c =
    let at = hit_at c.args.key.now c.args.now c.self.inside.entries.items c.deref.result.now c.hit_place.result c.in-Some.place
    c.in_ok-found-in-Some.found c.index.result.now c.deref.ensures.value c.hit_place.ensures c.in-Some.is
    c.in_ok-found-in-Some.ensures c.index.ensures in
    subst IsCacheList
    (sym (got c.args.key.now c.args.now c.self.inside.entries.items c.move_to_front.new.entries.items c.self.inside.capacity c.in-Some.place
    c.in_ok-found-in-Some.found c.self.invariant.distinct at.0 at.1 c.move_to_front.ensures))
    (is_list-got c.args.key.now c.args.now (record { entries = c.self.inside.entries.items; capacity = c.self.inside.capacity })
    c.self.invariant)

pub returns-in-None-clause-found : goal.returns-in-None-clause-found
returns-in-None-clause-found c =
    let none : find (is_hit c.args.key.now c.args.now) c.self.inside.entries.items ≡ None =
    found_nowhere (is_hit c.args.key.now c.args.now) c.self.inside.entries.items
    (ap (position (is_hit c.args.key.now c.args.now)) (sym c.deref.ensures.value) ∙ sym c.hit_place.ensures ∙ c.in-None.is) in
    sym none ∙ ap (λ (v : CountedList). hit c.args.key.now c.args.now v.list) c.self.view_is

pub returns-in-None-clause-after : goal.returns-in-None-clause-after
returns-in-None-clause-after c =
    let none : find (is_hit c.args.key.now c.args.now) c.self.inside.entries.items ≡ None =
    found_nowhere (is_hit c.args.key.now c.args.now) c.self.inside.entries.items
    (ap (position (is_hit c.args.key.now c.args.now)) (sym c.deref.ensures.value) ∙ sym c.hit_place.ensures ∙ c.in-None.is) in
    ap Some (sym (nothing_moves c.args.key.now c.args.now c.args.self.now.list
    (sym (ap (λ (v : CountedList). hit c.args.key.now c.args.now v.list) c.self.view_is) ∙ none)))
