use Rattle.std.proofs.Common.{◌≡◌, take}
use Rattle.npf_pcap.specs.Extent.{records_at}
use Rattle.npf_pcap.proofs.read.records_at.Given as goal

abbrev pub invariant-loop-extent : goal.invariant-loop-extent
invariant-loop-extent l = l.records.items ≡ records_at l.bytes (take l.extent-index l.extents)
