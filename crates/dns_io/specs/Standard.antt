-- What the adapters over std's readers and writers stand over, and how many of their calls have failed.
use Rattle.std.specs.Prelude.{ℕ}
use Rattle.dns_io.specs.declared.standard.InputSource.{InputSource}
use Rattle.dns_io.specs.declared.standard.OutputSink.{OutputSink}

-- the reader that a source reads from
abbrev pub reader_of : {R : Type 0} → InputSource R → R
reader_of source = source.input

abbrev pub failed_reads : {R : Type 0} → InputSource R → ℕ
failed_reads source = source.faults

-- the writer that a sink writes to
abbrev pub writer_of : {W : Type 0} → OutputSink W → W
writer_of sink = sink.output

abbrev pub failed_writes : {W : Type 0} → OutputSink W → ℕ
failed_writes sink = sink.faults
