-- What a link gave and took, and what has changed of a stream, from one moment to a later one.
use Rattle.std.proofs.Common.{◌≡◌, ℕ, List, [], ◌++◌, Option, None, Some, refl, sym, ap, ◌∙◌, append_assoc, append-nil}
use Rattle.dns_link.specs.Moved.{and_then}
use Rattle.dns_multiplexer.specs.Messages.{SerialMessageValue}
use Rattle.dns_tcp.specs.Streams.{StreamValue}

pub and_then-none : (told : Option (List ℕ)) → told ≡ and_then told []
and_then-none None = refl
and_then-none (Some bytes) = ap Some (sym (append-nil bytes))

pub and_then-both : (told : Option (List ℕ)) (r s : List ℕ) → and_then (and_then told r) s ≡ and_then told (r ++ s)
and_then-both None r s = refl
and_then-both (Some bytes) r s = ap Some (append_assoc bytes r s)

-- ---- only the part of a frame has changed

pub part_only : (old new : StreamValue) (part : List ℕ) → new ≡ record old { part = part }
    → new ≡ record old { part = new.part }
part_only old new part e = e ∙ ap (λ (s : StreamValue). record old { part = s.part }) (sym e)

pub part_on : (a b c : StreamValue) → b ≡ record a { part = b.part } → c ≡ record b { part = c.part }
    → c ≡ record a { part = c.part }
part_on a b c h k = k ∙ ap (λ (s : StreamValue). record s { part = c.part }) h

-- ---- only what is to be written has changed

pub queue_only : (old new : StreamValue) (queue : List SerialMessageValue) (unsent : List ℕ)
    → new ≡ record old { queue = queue; unsent = unsent } → new ≡ record old { queue = new.queue; unsent = new.unsent }
queue_only old new queue unsent e =
    e ∙ ap (λ (s : StreamValue). record old { queue = s.queue; unsent = s.unsent }) (sym e)

pub queue_on : (a b c : StreamValue) → b ≡ record a { queue = b.queue; unsent = b.unsent }
    → c ≡ record b { queue = c.queue; unsent = c.unsent } → c ≡ record a { queue = c.queue; unsent = c.unsent }
queue_on a b c h k = k ∙ ap (λ (s : StreamValue). record s { queue = c.queue; unsent = c.unsent }) h
