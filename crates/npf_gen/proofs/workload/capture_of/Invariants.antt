use Rattle.std.proofs.Common.{◌≡◌, ◌*◌}
use Rattle.npf_pcap.specs.Spelling.{capture_bytes}
use Rattle.npf_gen.specs.{Draw.drawn_state, Workload.generated_records}
use Rattle.npf_gen.proofs.workload.capture_of.Given as goal

abbrev pub invariant-loop-i : goal.invariant-loop-i
invariant-loop-i l = record {
  written : l.capture.items ≡ capture_bytes (generated_records l.fn.number l.i);
  drawn : l.draws.state ≡ drawn_state l.fn.number (3 * l.i);
}
