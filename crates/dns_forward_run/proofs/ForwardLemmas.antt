-- How a run ends, out of what its input came to and how that was written.
use Rattle.std.proofs.Common.{◌≡◌, ◌≢◌, ◌<◌, ◌≤◌, ◌+◌, ℕ, true, List, [], Option, None, Some, IfSome, length, refl, sym, ap, subst, arith}
use Rattle.std.specs.Io.KnownBytes.{Appends}
use Rattle.dns_model.specs.Counts.{Rose}
use Rattle.dns_io.specs.Reading.{input_limit, too_long_text, IsEnded, ReadsFront}
use Rattle.dns_io.specs.Runs.{AnInput, Asked, FixedText, KeepsOutside, KeepsSink, Outside}
use Rattle.dns_io.specs.Writing.{bad_words_text, TakesPrefix, WritesText}
use Rattle.dns_io.specs.Leaving.{Wrote, WrotePrefix}
use Rattle.dns_io.proofs.Leaving.{of_read, of_any, of_long, nothing_taken}
use Rattle.dns_io.proofs.Runs as runs
use Rattle.dns_session.specs.Grammar.{session_of}
use Rattle.dns_forward_run.specs.Forwards.{EndsByWords, EndsForward, Ended, ForwardEnds, ForwardTells, IsStopped, IsUnserved, IsUntouched, Met, NetView, Nothing, StopsByWords, TooLong}
use Rattle.dns_forward_run.specs.Forms.{form_asks, help_text, version_text}
use Rattle.dns_forward_run.specs.Keeping.{KeepsForward}
use Rattle.dns_forward_run.specs.Steps.{ComesTo, KeepsWriting, WroteAs, WrotePart}
use Rattle.dns_forward_run.specs.declared.ending.Ending.{Ending}
use Rattle.dns_forward_run.specs.declared.ending.Ending.TheVariants.{Told, Failed, NoMemory}
use Rattle.dns_forward_run.specs.declared.form.Form.{Form}
use Rattle.dns_forward_run.specs.declared.form.Form.TheVariants.{Forward, Help, Version}
use Rattle.dns_forward_run.specs.declared.form.Service.{Service}

-- ---- written

module _ {D N : Type 0} (seen : NetView D N) (service : Service) (met : Met D N) (bytes : List ℕ) where
  pub ending_wrote : (ending : Ending) (status : ℕ) (before now : Option (List ℕ))
      → ComesTo seen service met (session_of bytes) ending → WroteAs ending status before now
      → Wrote before now (ForwardEnds seen service met (session_of bytes) status)
  ending_wrote (Told expected text) status before now comes (same, written) = record {
    text = text.items;
    fact = subst (λ n. ForwardEnds seen service met (session_of bytes) n text.items) (sym same) comes;
    written = written;
  }
  ending_wrote Failed status before now comes written = absurd written
  ending_wrote NoMemory status before now comes written = absurd written

  nothing_told : (before : Option (List ℕ)) → WrotePrefix before before (ForwardTells seen service met bytes)
  nothing_told before = record { text = []; fact = Nothing refl; written = nothing_taken before [] }

  unwritten : {W : Type 0} (taken : W → Option (List ℕ)) (before now : W) → now ≡ before
      → WrotePrefix (taken before) (taken now) (ForwardTells seen service met bytes)
  unwritten taken before now same =
      subst (λ w. WrotePrefix (taken before) (taken w) (ForwardTells seen service met bytes)) (sym same)
      (nothing_told (taken before))

  pub ending_prefix : {W : Type 0} (taken : W → Option (List ℕ)) (ending : Ending) (before now : W)
      → ComesTo seen service met (session_of bytes) ending → WrotePart taken ending before now
      → WrotePrefix (taken before) (taken now) (ForwardTells seen service met bytes)
  ending_prefix taken (Told expected text) before now comes written = record {
    text = text.items;
    fact = Ended expected comes;
    written = written;
  }
  ending_prefix taken Failed before now comes same = unwritten taken before now same
  ending_prefix taken NoMemory before now comes same = unwritten taken before now same

  pub ending_failed : (ending : Ending) → ComesTo seen service met (session_of bytes) ending → ending ≡ Failed
      → IsUnserved seen service met
  ending_failed ending comes is = subst (λ e. ComesTo seen service met (session_of bytes) e) is comes

-- ---- read

module _ {D N : Type 0} (seen : NetView D N) (service : Service) (met : Met D N) where
  pub read_ends : (told : Option (List ℕ)) (bytes : List ℕ) (status : ℕ) (before now : Option (List ℕ))
      → IfSome told (λ left. bytes ≡ left)
      → (status < 4 → Wrote before now (ForwardEnds seen service met (session_of bytes) status)) → status ≢ 2
      → WrotePrefix before now (ForwardTells seen service met bytes)
      → EndsForward seen service met status told before now
  read_ends told bytes status before now same wrote form prefix = record {
    ends = λ low. of_read (λ bs. Wrote before now (ForwardEnds seen service met (session_of bs) status)) told bytes
        same (wrote low);
    form = form;
    prefix = of_read (λ bs. WrotePrefix before now (ForwardTells seen service met bs)) told bytes same prefix;
  }

  pub long_ends : (told : Option (List ℕ)) (status : ℕ) (before now : Option (List ℕ)) → 5 ≤ status
      → IfSome told (λ left. input_limit < length left) → TakesPrefix before now too_long_text
      → EndsForward seen service met status told before now
  long_ends told status before now least long taken = record {
    ends = λ low. absurd (omega arith);
    form = λ is. absurd (omega arith);
    prefix = of_long (λ bs. WrotePrefix before now (ForwardTells seen service met bs)) told long
        (λ bytes more. record { text = too_long_text; fact = TooLong more refl; written = taken });
  }

  pub stopped_ends : (told : Option (List ℕ)) (status : ℕ) (before : Option (List ℕ)) → 4 ≤ status
      → EndsForward seen service met status told before before
  stopped_ends told status before least = record {
    ends = λ low. absurd (omega arith);
    form = λ is. absurd (omega arith);
    prefix = of_any (λ bs. WrotePrefix before before (ForwardTells seen service met bs)) told
        (λ bytes. nothing_told seen service met bytes before);
  }

-- ---- kept

not_long : (told : Option (List ℕ)) (bytes : List ℕ) (status : ℕ) → length bytes ≤ input_limit
    → IfSome told (λ left. bytes ≡ left)
    → IfSome told (λ left. input_limit < length left → 4 ≤ status)
not_long None bytes status fits same = tt
not_long (Some left) bytes status fits same = λ long. absurd (omega (arith, ap length same))

-- an input was read to its end
pub keeps_read : {S W : Type 0} (seen : Outside S W) (status : ℕ) (full rest : S) (before now : W) (bytes : List ℕ)
    → length bytes ≤ input_limit
    → IfSome (seen.left full) (λ told. bytes ≡ told) → IsEnded (seen.left full) (seen.left rest)
    → ReadsFront (input_limit + 1) (seen.left full) (seen.left rest)
    → seen.failed_reads full ≤ seen.failed_reads rest → KeepsWriting seen.failed_writes status before now
    → KeepsForward seen AnInput status full rest before now
keeps_read seen status full rest before now bytes fits same end front later keeps = record {
  most = omega (arith, keeps.most);
  untouched = keeps.untouched;
  sink = keeps.sink;
  memory = λ is. absurd cc;
  length = λ is. record {
    only = λ long. absurd (omega (arith, keeps.most));
    written = λ long. absurd (omega (arith, keeps.most));
    always = not_long (seen.left full) bytes status fits same;
  };
  unread = λ other. absurd (other refl);
  ended = λ is below. end;
  reads = front;
  read_later = later;
  later = keeps.later;
}

-- what any run keeps that only reads and writes
pub keeps_as : {S W : Type 0} (seen : Outside S W) (asked : Asked) (status : ℕ) (full rest : S) (before now : W)
    → KeepsOutside seen asked status full rest before now → KeepsForward seen asked status full rest before now
keeps_as seen asked status full rest before now k = record {
  most = k.most;
  untouched = k.untouched;
  sink = k.sink;
  memory = k.memory;
  length = k.length;
  unread = k.unread;
  ended = k.ended;
  reads = k.reads;
  read_later = k.read_later;
  later = k.later;
}

-- an input wasn't read to its end
pub keeps_unread : {S W : Type 0} (seen : Outside S W) (status : ℕ) (full rest : S) (before : W) → 4 ≤ status
    → status ≢ 5 → status ≤ 6 → (status ≡ 4 → Rose (seen.failed_reads full) (seen.failed_reads rest))
    → ReadsFront (input_limit + 1) (seen.left full) (seen.left rest)
    → seen.failed_reads full ≤ seen.failed_reads rest → KeepsForward seen AnInput status full rest before before
keeps_unread seen status full rest before least other most source front later =
    keeps_as seen AnInput status full rest before before
    (runs.keeps_stopped seen status full rest before least other most source front later)

-- an input is too long, which was said
pub keeps_long : {S W : Type 0} (seen : Outside S W) (status : ℕ) (full rest : S) (before now : W) → 5 ≤ status
    → status ≤ 7 → (status ≡ 5 → Rose (seen.failed_writes before) (seen.failed_writes now))
    → (status ≡ 7 → Appends (seen.taken before) (seen.taken now) too_long_text)
    → seen.failed_writes before ≤ seen.failed_writes now → IfSome (seen.left full) (λ told. input_limit < length told)
    → ReadsFront (input_limit + 1) (seen.left full) (seen.left rest)
    → seen.failed_reads full ≤ seen.failed_reads rest → KeepsForward seen AnInput status full rest before now
keeps_long seen status full rest before now least most sink written later long front read_later =
    keeps_as seen AnInput status full rest before now
    (runs.keeps_long seen status full rest before now least most sink written later long front read_later)

-- ---- by words

module _ {D N : Type 0} (seen : NetView D N) (met : Met D N) where
  pub forward_ends : (form : Option Form) (service : Service) (status : ℕ) (told before now : Option (List ℕ))
      → form ≡ Some (Forward service) → EndsForward seen service met status told before now
      → EndsByWords seen form met status told before now
  forward_ends form service status told before now is ends =
      subst (λ f. EndsByWords seen f met status told before now) (sym is) ends

  pub forward_stops : (form : Option Form) (service : Service) (failed now : ℕ) → form ≡ Some (Forward service)
      → IsStopped seen service met failed now → StopsByWords seen form met failed now
  forward_stops form service failed now is stops = subst (λ f. StopsByWords seen f met failed now) (sym is) stops

  pub help_ends : (form : Option Form) (status : ℕ) (told before now : Option (List ℕ)) → form ≡ Some Help
      → WritesText status 0 before now help_text → IsUntouched met → EndsByWords seen form met status told before now
  help_ends form status told before now is writes untouched =
      subst (λ f. EndsByWords seen f met status told before now) (sym is)
      (record { writes = writes; untouched = untouched })

  pub version_ends : (form : Option Form) (status : ℕ) (told before now : Option (List ℕ)) → form ≡ Some Version
      → WritesText status 0 before now version_text → IsUntouched met → EndsByWords seen form met status told before now
  version_ends form status told before now is writes untouched =
      subst (λ f. EndsByWords seen f met status told before now) (sym is)
      (record { writes = writes; untouched = untouched })

  pub none_ends : (form : Option Form) (status : ℕ) (told before now : Option (List ℕ)) → form ≡ None
      → WritesText status 2 before now bad_words_text → IsUntouched met
      → EndsByWords seen form met status told before now
  none_ends form status told before now is writes untouched =
      subst (λ f. EndsByWords seen f met status told before now) (sym is)
      (record { writes = writes; untouched = untouched })

module _ {S W : Type 0} (seen : Outside S W) where
  pub forward_keeps : (form : Option Form) (service : Service) (status : ℕ) (full rest : S) (before now : W)
      → form ≡ Some (Forward service) → KeepsForward seen AnInput status full rest before now
      → KeepsForward seen (form_asks form) status full rest before now
  forward_keeps form service status full rest before now is keeps =
      subst (λ f. KeepsForward seen (form_asks f) status full rest before now) (sym is) keeps

  -- a text that is always the same
  pub text_keeps : (form : Option Form) (status : ℕ) (full : S) (before now : W) → form_asks form ≡ FixedText
      → (status ≡ 6 → seen.takes_memory ≡ true) → KeepsSink seen.failed_writes status before now
      → KeepsForward seen (form_asks form) status full full before now
  text_keeps form status full before now is memory keeps =
      subst (λ asked. KeepsForward seen asked status full full before now) (sym is)
      (keeps_as seen FixedText status full full before now
      (runs.keeps_unread seen FixedText status full before now (λ other. absurd cc) (λ asked. memory) keeps))
