-- What contracts see of a source over a reader of std, and of a sink over a writer of std.
-- This project's own; docs/HOST.md, "Bytes in and out".
use Rattle.std.specs.Prelude.{ℕ}
use Rattle.ivm_io.specs.declared.adapters.ReaderSource.{ReaderSource}
use Rattle.ivm_io.specs.declared.adapters.WriterSink.{WriterSink}

-- the reader that a source reads from
abbrev pub source_reader : {R : Type 0} → ReaderSource R → R
source_reader source = source.reader

-- how often that reader has failed
abbrev pub reader_faults : {R : Type 0} → ReaderSource R → ℕ
reader_faults source = source.faults

-- the writer that a sink writes to
abbrev pub sink_writer : {W : Type 0} → WriterSink W → W
sink_writer sink = sink.writer

-- how often that writer has failed, or taken nothing
abbrev pub writer_faults : {W : Type 0} → WriterSink W → ℕ
writer_faults sink = sink.faults
