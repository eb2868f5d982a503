-- What a sink over a stream shows.
use Rattle.std.specs.Prelude.{ℕ, List, length, Option}
use Rattle.std.specs.Io.KnownBytes.{append_known}
use Rattle.npf_outside.specs.declared.stream_sink.StreamSink.{StreamSink}
use Rattle.npf_outside.specs.Sink.{SinkMoment}

-- what the stream holds, where it tells that, and then what waits in the buffer
abbrev pub sink_contents : {W : Type 0} → (W → Option (List ℕ)) → StreamSink W → Option (List ℕ)
sink_contents contents sink = append_known (contents sink.stream) sink.buffer.items

-- what waits is in the buffer
abbrev pub moment_by : {W : Type 0} → (W → Option (List ℕ)) → StreamSink W → SinkMoment
moment_by contents sink = record {
  held = sink_contents contents sink;
  faults = sink.faults;
  waiting = length sink.buffer.items;
}
