use Rattle.std.proofs.Common.{◌∙◌}
use Rattle.dns_message.proofs.NameKeeping.{kept_more, part_last}
use Rattle.dns_message.proofs.known_names.KnownNames.learn.Goals as goal

pub loop-one-init : goal.loop-one-init
loop-one-init c = record {
  known = rw c.in_ok-extend_from_slice.ensures.items (kept_more _ _ _ _ _ c.requires.known);
  grown = c.in_ok-extend_from_slice.ensures.items;
}

pub put-requires-clause-there : goal.put-requires-clause-there
put-requires-clause-there c =
    let spelled = c.args.self.now.spelled in
    rw c.loop-one.invariant.grown (part_last spelled.items c.args.name.now _ (c.len-base.ensures ∙ spelled.ok.0))
