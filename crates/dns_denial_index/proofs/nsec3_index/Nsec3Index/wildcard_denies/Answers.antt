use Rattle.std.proofs.Common.{◌≡◌, ◌<◌, List, ap, arith, get_or, length, sym, ◌∙◌}
use Rattle.dns_model.specs.Owned.{OwnedNsec3}
use Rattle.dns_rules.specs.ListedTypes.{wildcard_lacks}
use Rattle.dns_denial_index.proofs.Mapped.{walk_first, walk_within, walk_found, walk_less, walk_more, walk_end}
use Rattle.dns_denial_index.proofs.HashParts.{number_in_table, found_after}
use Rattle.dns_denial_index.proofs.nsec3_index.Nsec3Index.wildcard_denies.Goals as goal

pub matching-init : goal.matching-init
matching-init g c = walk_first _ _ _ _ c.found-next.ensures.matching

pub index-requires : goal.index-requires
index-requires g c =
    let within : c.in-Some.number < length c.args.self.now =
    walk_within _ _ _ _ c.in-Some.number c.matching.invariant c.in-Some.is in
    omega (arith, within, ap length c.self.view_is, c.self.inside.nsec3s.ok.0)

pub returns-then-wildcard_lacks-clause-denies : goal.returns-then-wildcard_lacks-clause-denies
returns-then-wildcard_lacks-clause-denies g c =
    let nsec3 = c.index.result.now in
    let read : nsec3 ≡ get_or c.args.self.now c.in-Some.number nsec3 =
    c.index.ensures ∙ ap (λ (l : List OwnedNsec3). get_or l c.in-Some.number nsec3) c.self.view_is in
    sym (walk_found _ _ _ _ c.in-Some.number nsec3 c.matching.invariant c.in-Some.is
    (ap (λ (x : OwnedNsec3). wildcard_lacks c.args.record_type.0 x.fields.types) (sym read)
    ∙ ap (wildcard_lacks c.args.record_type.0) (sym c.type_set.ensures) ∙ sym c.wildcard_lacks.ensures
    ∙ c.if-wildcard_lacks.true))

pub following-next-requires : goal.following-next-requires
following-next-requires g c =
    let within : c.in-Some.number < length c.args.self.now =
    walk_within _ _ _ _ c.in-Some.number c.matching.invariant c.in-Some.is in
    number_in_table c.self.inside.nsec3s.items c.self.inside.points c.self.inside.table c.in-Some.number
    c.self.invariant
    (omega (arith, within, ap length c.self.view_is))

pub matching-smaller : goal.matching-smaller
matching-smaller g c =
    walk_less _ _ c.args.self.now c.matching.next c.in-Some.number c.following-next.result c.matching.invariant
    c.in-Some.is
    (found_after c.self.inside.nsec3s.items c.args.self.now c.self.inside.points c.self.inside.table
    c.args.wildcard.now _
    c.matching.next c.in-Some.number c.following-next.result c.self.invariant c.self.view_is c.matching.invariant
    c.in-Some.is
    c.following-next.ensures)

pub matching-preserved : goal.matching-preserved
matching-preserved g c =
    let nsec3 = c.index.result.now in
    let read : nsec3 ≡ get_or c.args.self.now c.in-Some.number nsec3 =
    c.index.ensures ∙ ap (λ (l : List OwnedNsec3). get_or l c.in-Some.number nsec3) c.self.view_is in
    walk_more _ _ c.args.self.now c.matching.next c.in-Some.number c.following-next.result nsec3 c.matching.invariant
    c.in-Some.is
    (ap (λ (x : OwnedNsec3). wildcard_lacks c.args.record_type.0 x.fields.types) (sym read)
    ∙ ap (wildcard_lacks c.args.record_type.0) (sym c.type_set.ensures) ∙ sym c.wildcard_lacks.ensures
    ∙ c.if-wildcard_lacks.false)
    (found_after c.self.inside.nsec3s.items c.args.self.now c.self.inside.points c.self.inside.table
    c.args.wildcard.now _
    c.matching.next c.in-Some.number c.following-next.result c.self.invariant c.self.view_is c.matching.invariant
    c.in-Some.is
    c.following-next.ensures)

pub returns-clause-denies : goal.returns-clause-denies
returns-clause-denies g c = sym (walk_end _ _ c.args.self.now c.matching.next c.matching.invariant c.in_default.is)
