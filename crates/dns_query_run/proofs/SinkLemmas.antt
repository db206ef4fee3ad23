-- What a writing leaves in a sink, by its result.
use Rattle.std.proofs.Common.{◌≡◌, ℕ, List, Result, Ok, Err, refl, true}
use Rattle.std.specs.Prelude.{IfErr, OnOk}
use Rattle.dns_model.specs.Counts.{Rose}
use Rattle.dns_io.specs.Writing.{TakesPrefix}
use Rattle.dns_io.specs.declared.sink.SinkFault.{SinkFault}
use Rattle.dns_io.specs.declared.sink.SinkFault.TheVariants.{Failed, NoMemory}
use Rattle.dns_query_run.specs.Endings.{CutShort, IsCutShort, Said, Says, SinkMet, Took}

module _ {W X : Type 0} (met : SinkMet W) (text : List ℕ) where
  pub cut_short : (r : Result X SinkFault) → (r ≡ Err Failed → Rose (met.faults met.old) (met.faults met.new))
      → (r ≡ Err NoMemory → met.takes_memory ≡ true) → TakesPrefix (met.taken met.old) (met.taken met.new) text
      → IfErr r (λ fault. IsCutShort fault met text)
  cut_short (Ok x) failed memory part = tt
  cut_short (Err Failed) failed memory part = record { cause = failed refl; part = part }
  cut_short (Err NoMemory) failed memory part = record { cause = memory refl; part = part }

  pub says_so : (r : Result X SinkFault) → OnOk r (Took met text) → IfErr r (λ fault. IsCutShort fault met text)
      → Says met text
  says_so (Ok x) whole cut = Said whole
  says_so (Err fault) whole cut = CutShort fault cut
