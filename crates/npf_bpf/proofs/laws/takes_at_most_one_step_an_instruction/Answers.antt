use Rattle.npf_bpf.proofs.ValueLemmas.{steps_within_length}
use Rattle.npf_bpf.proofs.laws.takes_at_most_one_step_an_instruction.Goals as goal

pub returns : goal.returns
returns c = steps_within_length
