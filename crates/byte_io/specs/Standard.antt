-- How a proof sees a source and a sink over readers and writers of std.
use Rattle.std.specs.Prelude.{ℕ}
use Rattle.byte_io.specs.declared.standard.StdSource.{StdSource}
use Rattle.byte_io.specs.declared.standard.StdSink.{StdSink}

-- the reader of a source
abbrev pub source_inner : {R : Type 0} → StdSource R → R
source_inner source = source.inner

-- how many reads of a source have failed
abbrev pub source_faults : {R : Type 0} → StdSource R → ℕ
source_faults source = source.faults

-- the writer of a sink
abbrev pub sink_inner : {W : Type 0} → StdSink W → W
sink_inner sink = sink.inner

-- how many writes of a sink have failed
abbrev pub sink_faults : {W : Type 0} → StdSink W → ℕ
sink_faults sink = sink.faults
