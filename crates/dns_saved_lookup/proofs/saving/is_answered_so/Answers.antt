use Rattle.std.proofs.Common.{◌↔◌, IsTrue, true, false, refl}
use Rattle.dns_handle.specs.Replies.{reply_of}
use Rattle.dns_saved_lookup.specs.Alike.{Alike}
use Rattle.dns_saved_lookup.proofs.saving.is_answered_so.Goals as goal

pub returns-clause-so : goal.returns-clause-so
returns-clause-so c = λ s read same.
    let fact : IsTrue true ↔ Alike (reply_of c.args.answer.now) (reply_of c.in_ok-again.again) = rw same at c.same_reply.ensures in
    record { again = reply_of c.in_ok-again.again; answered = c.in_ok-again.ensures s read; alike = fact.0 refl }

pub returns-clause-otherwise : goal.returns-clause-otherwise
returns-clause-otherwise c = λ s read same.
    let fact : IsTrue false ↔ Alike (reply_of c.args.answer.now) (reply_of c.in_ok-again.again) = rw same at c.same_reply.ensures in
    record {
      again = reply_of c.in_ok-again.again;
      answered = c.in_ok-again.ensures s read;
      unlike = λ alike. let none : IsTrue false = fact.1 alike in cc;
    }
