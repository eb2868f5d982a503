use Rattle.std.proofs.Common.{arith}
use Rattle.npf_gen.{specs.Workload.packet_count, proofs.WorkloadLemmas.records_length}
use Rattle.npf_gen.proofs.laws.capture_has_length.Goals as goal

pub returns : goal.returns
returns c = λ number. omega (arith, records_length number packet_count)
