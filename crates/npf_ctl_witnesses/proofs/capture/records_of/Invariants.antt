use Rattle.std.{proofs.Common.{◌≡◌, map, take}, specs.{List.{enumerate_from, filter}, Prelude.All}}
use Rattle.npf_pcap.specs.Spelling.{FitsCapture}
use Rattle.npf_ctl_witnesses.specs.WitnessFiles.{passes_with, witness_record}
use Rattle.npf_ctl_witnesses.proofs.capture.records_of.Given as goal

abbrev pub invariant-loop-place : goal.invariant-loop-place
invariant-loop-place l = record {
  told : l.records.items ≡ map witness_record (filter (passes_with l.ifaces l.one) (enumerate_from 1 (take l.place l.packets)));
  fit : All FitsCapture l.records.items;
}
