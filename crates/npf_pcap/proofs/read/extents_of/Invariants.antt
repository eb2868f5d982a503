use Rattle.std.proofs.Common.{◌-◌, ◌≤◌, length, drop, All}
use Rattle.npf_pcap.{specs.Extent.{records_at, EndsWithin, IsShort, IsTimely, StandApart}, proofs.RecordLemmas.Progress}
use Rattle.npf_pcap.proofs.read.extents_of.Given as goal

abbrev pub invariant-loop-at : goal.invariant-loop-at
invariant-loop-at l = record {
  progress : Progress l.format (drop 24 l.bytes) (drop l.at l.bytes) l.number (records_at l.bytes l.extents.items);
  inside : l.at ≤ length l.bytes;
  within : All (EndsWithin (length l.bytes)) l.extents.items;
  apart : StandApart 0 l.extents.items l.at;
  short : All IsShort l.extents.items;
  timely : All IsTimely l.extents.items;
}

abbrev pub decreases-loop-at : goal.decreases-loop-at
decreases-loop-at l = length l.bytes - l.at
