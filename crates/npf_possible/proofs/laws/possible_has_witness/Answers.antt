use Rattle.npf_possible.proofs.WitnessLemmas.{possible_has_witness_lem}
use Rattle.npf_possible.proofs.laws.possible_has_witness.Goals as goal

pub returns : goal.returns
returns c = possible_has_witness_lem
