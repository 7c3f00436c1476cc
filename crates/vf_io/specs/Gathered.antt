-- What a sink over a writer holds: what the writer got, and what is still gathered.
use Rattle.std.specs.Prelude.{ℕ, List, Option}
use Rattle.std.specs.Io.Buffered.{writer_buffer, writer_contents}
use Rattle.vf_io.specs.declared.standard_sink.StdSink.{StdSink}

-- the bytes that the writer hasn't got yet
abbrev pub gathered_bytes : {W : Type 0} → StdSink W → List ℕ
gathered_bytes sink = writer_buffer sink.writer

-- the bytes that the writer got, where it shows them, and after them those that are gathered
abbrev pub taken_bytes : {W : Type 0} → (W → Option (List ℕ)) → StdSink W → Option (List ℕ)
taken_bytes contents sink = writer_contents contents sink.writer
