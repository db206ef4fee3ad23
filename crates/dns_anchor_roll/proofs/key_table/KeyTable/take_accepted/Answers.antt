use Rattle.std.proofs.Common.{◌∙◌, ◌&&◌, Some, true, refl, ap}
use Rattle.dns_anchor_roll.specs.Tables.{among, entry_at, gone_on, is_done_at, settled, standing_in}
use Rattle.dns_anchor_roll.proofs.Tables.{accepted_takes}
use Rattle.dns_anchor_roll.proofs.key_table.KeyTable.take_accepted.Goals as goal

pub returns-clause-ok : goal.returns-clause-ok
returns-clause-ok c =
    accepted_takes c.args.found.now c.args.moment c.args.ttl c.args.self.now
    (record { known = c.settle.new.known; shown = c.in_ok-shown.shown; accepted = true; last = Some c.args.moment })
    c.in_ok-through.through.items c.requires
    (λ q. c.in_ok-shown.ensures q
    ∙ ap (λ keys. gone_on (among q keys) (entry_at c.args.self.now.shown q) c.args.moment c.args.ttl) c.as_slice.ensures.value)
    (λ q. c.in_ok-through.ensures q
    ∙ ap (λ keys. is_done_at (entry_at c.in_ok-shown.shown q) c.args.moment && among q keys) c.as_slice-2.ensures.value)
    (λ q. c.in_ok-settle.ensures.ok q
    ∙ ap (λ keys. settled (among q keys) c.args.moment (among q c.as_slice-3.result.now) (standing_in c.args.self.now.known q))
    c.as_slice-4.ensures.value
    ∙ ap (λ keys. settled (among q c.args.found.now.revoked.items) c.args.moment (among q keys) (standing_in c.args.self.now.known q))
    c.as_slice-3.ensures.value)
    refl refl
