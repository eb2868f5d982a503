use Rattle.std.specs.Prelude.{◌≡◌, ◌↔◌, ⊤, ℕ, ◌-◌, ◌≤◌, List, [], length, Some, Result, OnOk, IsErrOf, Contains}
use Rattle.npf_outside.specs.declared.mem_sink.MemSink.{MemSink}
use Rattle.npf_outside.specs.declared.sink.SinkFault.{SinkFault}
use Rattle.npf_outside.specs.declared.sink.SinkFault.TheVariants as Fault
use Rattle.npf_outside.specs.Calls.{planned, next_call}
use Rattle.npf_outside.specs.Counts.{Rose}
use Rattle.npf_outside.specs.Sink.{SinkMoment}

-- what was put
abbrev pub bytes_of : MemSink → List ℕ
bytes_of sink = sink.bytes.items

-- a sink in memory tells all
abbrev pub sink_moment : MemSink → SinkMoment
sink_moment sink = record {
  held = Some (bytes_of sink);
  faults = sink.faults;
  waiting = length (bytes_of sink) - sink.flushed;
}

-- nothing was put, no fault counted, no call made and none is to fail
pub record IsNewSink (sink : MemSink) : Type 0 where
  pub empty : bytes_of sink ≡ []
  pub unplanned : planned sink.calls ≡ []
  pub no_calls : sink.calls.made ≡ 0
  pub no_faults : sink.faults ≡ 0

-- what a call leaves and counts, whatever it does with bytes
pub record IsCall (old new : MemSink) (result : Result ⊤ SinkFault) : Type 0 where
  pub faultless : OnOk result (new.faults ≡ old.faults)
  pub failed : IsErrOf result Fault.Failed → Rose old.faults new.faults
  pub counted : old.faults ≤ new.faults
  pub exactly : IsErrOf result Fault.Failed ↔ Contains (planned old.calls) (next_call old.calls)
  pub plan : planned new.calls ≡ planned old.calls
  pub calls : new.calls.made ≡ next_call old.calls
