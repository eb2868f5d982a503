use Rattle.std.proofs.Common.{arith}
use Rattle.npf_gen.{specs.Workload.{generated_records, packet_count}, proofs.WorkloadLemmas.records_fit}
use Rattle.npf_pcap.proofs.SpellingLemmas.{written_is_capture}
use Rattle.npf_gen.proofs.laws.capture_reads_again.Goals as goal

pub returns : goal.returns
returns c = λ number. written_is_capture (generated_records number packet_count) (records_fit number packet_count (omega arith))
