use Rattle.std.proofs.Common.{◌⊎◌, take, subst}
use Rattle.dns_client.specs.Readers.{Begins, items_of, place_of, read_of}
use Rattle.dns_client.proofs.ReaderLemmas.{front_begins, fronts_agree}
use Rattle.dns_client.proofs.rc_stream.RcStream.readers_agree.Goals as goal

pub returns-clause-front : goal.returns-clause-front
returns-clause-front g c = front_begins (place_of c.args._one.now) (items_of c.args._one.now)

pub returns-clause-agree : goal.returns-clause-agree
returns-clause-agree g c =
    let one = read_of c.args._one.now in let place = place_of c.args._other.now in
    subst (λ items. Begins one (take place items) ⊎ Begins (take place items) one) c.requires
    (fronts_agree (place_of c.args._one.now) place (items_of c.args._one.now))
