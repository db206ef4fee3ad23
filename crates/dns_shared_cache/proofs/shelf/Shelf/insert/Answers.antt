use Rattle.std.proofs.Common.{rules, inl, inr, ◌≡◌, true, ℕ}
use Rattle.dns_shared_cache.specs.Shelves.{is_accepted}
use Rattle.dns_shared_cache.proofs.ShelfLemmas.{MayPut, left-insert_accepted, left-insert_offered}
use Rattle.dns_shared_cache.proofs.shelf.Shelf.insert.Goals as goal
use Rattle.dns_shared_cache.proofs.shelf.Shelf.insert.Goals.{else-capacity-ne0-via-then-capacity-ne0+in_ok-is_accepted+else-not-branch, else-capacity-ne0-via-else-capacity-ne0}

pub invariant_of-self : goal.invariant_of-self
invariant_of-self g c =
    let answers = g.V.Verifier.answers c.args.self.now.verifier in
    let may : MayPut answers c.args.entry c.args.self.now.cache.list =
    elim c.else-capacity-ne0.branch [
      | else-capacity-ne0-via-then-capacity-ne0+in_ok-is_accepted+else-not-branch w ↦ inr (search rules)
      | else-capacity-ne0-via-else-capacity-ne0 w ↦ inl (search rules)
    ] in
    record {
      accepted = left-insert_accepted answers c.args.entry c.args.self.now.cache.list c.insert.new.self.list c.insert.result
          c.insert.ensures.after may c.args.self.now.accepted;
    }

pub returns-clause-after : goal.returns-clause-after
returns-clause-after g c =
    let answers = g.V.Verifier.answers c.args.self.now.verifier in
    let may : MayPut answers c.args.entry c.args.self.now.cache.list =
    elim c.else-capacity-ne0.branch [
      | else-capacity-ne0-via-then-capacity-ne0+in_ok-is_accepted+else-not-branch w ↦ inr (search rules)
      | else-capacity-ne0-via-else-capacity-ne0 w ↦ inl (search rules)
    ] in
    left-insert_offered answers c.args.entry c.args.self.now.cache.list c.insert.new.self.list c.insert.result
    c.insert.ensures.after may c.insert.ensures.listed_before
