use Rattle.dns_shared_cache.proofs.ShelfLemmas.{left-get_accepted}
use Rattle.dns_shared_cache.proofs.shelf.Shelf.get.Goals as goal

pub invariant_of-self : goal.invariant_of-self
invariant_of-self g c =
    record {
      accepted = left-get_accepted (g.V.Verifier.answers c.args.self.now.verifier) c.args.key.now c.args.now
          c.args.self.now.cache.list c.get.new.self.list c.get.result c.get.ensures.after c.args.self.now.accepted;
    }
