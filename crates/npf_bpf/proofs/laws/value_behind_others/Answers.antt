use Rattle.npf_bpf.proofs.ValueLemmas.{value_behind}
use Rattle.npf_bpf.proofs.laws.value_behind_others.Goals as goal

pub returns : goal.returns
returns c = value_behind
