-- How a run ends that writes the line of a lookup below nested zones.
use Rattle.std.proofs.Common.{ℕ, List, [], Option, refl, inl, inr}
use Rattle.dns_io.specs.Writing.{WritesText}
use Rattle.dns_io.proofs.Leaving.{nothing_taken}
use Rattle.dns_run.specs.Benches.{IsBenchLine, WritesBench}

-- a line that is written
pub writes_line : (n status : ℕ) (before now : Option (List ℕ)) (text : List ℕ) → IsBenchLine n text
    → WritesText status 0 before now text
    → WritesBench n status before now
writes_line n status before now text is wrote = record {
  ends = wrote.ends;
  whole = λ done. record { text = text; fact = is; written = wrote.whole done };
  prefix = record { text = text; fact = inl is; written = wrote.prefix };
}

-- no line, where memory runs out before it is there
pub writes_none : (n : ℕ) (before : Option (List ℕ)) → WritesBench n 6 before before
writes_none n before = record {
  ends = λ five six. absurd (six refl);
  whole = λ done. cc;
  prefix = record { text = []; fact = inr refl; written = nothing_taken before [] };
}
