use Rattle.std.{proofs.Common.{◌≡◌, ◌++◌, take}, specs.List.flat_map}
use Rattle.npf_pcap.specs.Spelling.{header_bytes, record_bytes}
use Rattle.npf_pcap.proofs.write.write_capture.Given as goal

abbrev pub invariant-loop-record : goal.invariant-loop-record
invariant-loop-record l = l.out.items ≡ header_bytes ++ flat_map record_bytes (take l.record-index l.records)
