-- What a run over bytes leaves is what it leaves over the input that the source told.
use Rattle.std.proofs.Common.{◌<◌, ℕ, List, [], Option, None, Some, IfSome, length, refl}
use Rattle.dns_io.specs.Reading.{input_limit, too_long_text}
use Rattle.dns_io.specs.Writing.{TakesPrefix}
use Rattle.dns_io.specs.Leaving.{Wrote, Leaves, WrotePrefix}
use Rattle.dns_io.proofs.Leaving.{of_any, of_long, nothing_taken}
use Rattle.dns_report.specs.declared.parts.Parts.{Parts}
use Rattle.dns_session_lookup.specs.declared.verification.Verification.{Verification}
use Rattle.dns_run.specs.Outcomes.{LeavesPrefix, ComesTo, Reports, Derives, Fails}
use Rattle.dns_run.specs.Outcomes.{Refuses, Reported, Failed, Refused, TooLong, Nothing}

-- a report of an answer that has a trail is a report
report_derived : (how : Verification) (shows : Parts) (before now : Option (List ℕ)) (bytes : List ℕ)
    → Wrote before now (Derives how shows bytes) → Wrote before now (Reports how shows bytes)
report_derived how shows before now bytes wrote =
    let l : Derives how shows bytes wrote.text = wrote.fact in
    record {
      text = wrote.text;
      fact = record { session = l.session; read = l.read; report = l.report.report };
      written = wrote.written;
    }

pub leaves_reports : (how : Verification) (shows : Parts) (told before now : Option (List ℕ))
    → Leaves (Derives how shows) told before now
    → Leaves (Reports how shows) told before now
leaves_reports how shows None before now some =
    record { bytes = some.bytes; fact = report_derived how shows before now some.bytes some.fact }
leaves_reports how shows (Some bytes) before now wrote = report_derived how shows before now bytes wrote

-- nothing was written
pub nothing_written : (how : Verification) (shows : Parts) (before : Option (List ℕ)) (bytes : List ℕ)
    → WrotePrefix before before (ComesTo how shows bytes)
nothing_written how shows before bytes = record { text = []; fact = Nothing refl; written = nothing_taken before [] }

pub nothing_told : (how : Verification) (shows : Parts) (told before : Option (List ℕ))
    → LeavesPrefix how shows told before before
nothing_told how shows told before =
    of_any (λ bytes. WrotePrefix before before (ComesTo how shows bytes)) told (nothing_written how shows before)

pub report_prefix : (how : Verification) (shows : Parts) (before now : Option (List ℕ)) (bytes text : List ℕ)
    → Derives how shows bytes text → TakesPrefix before now text → WrotePrefix before now (ComesTo how shows bytes)
report_prefix how shows before now bytes text is taken = record { text = text; fact = Reported is; written = taken }

pub fault_prefix : (how : Verification) (shows : Parts) (before now : Option (List ℕ)) (bytes text : List ℕ)
    → Fails how bytes text → TakesPrefix before now text → WrotePrefix before now (ComesTo how shows bytes)
fault_prefix how shows before now bytes text is taken = record { text = text; fact = Failed is; written = taken }

pub refused_prefix : (how : Verification) (shows : Parts) (before now : Option (List ℕ)) (bytes text : List ℕ)
    → Refuses bytes text → TakesPrefix before now text → WrotePrefix before now (ComesTo how shows bytes)
refused_prefix how shows before now bytes text is taken = record { text = text; fact = Refused is; written = taken }

pub long_prefix : (how : Verification) (shows : Parts) (told before now : Option (List ℕ))
    → IfSome told (λ left. input_limit < length left)
    → TakesPrefix before now too_long_text → LeavesPrefix how shows told before now
long_prefix how shows told before now long taken =
    of_long (λ bytes. WrotePrefix before now (ComesTo how shows bytes)) told long
    (λ bytes more. record { text = too_long_text; fact = TooLong more refl; written = taken })
