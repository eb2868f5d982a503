use Rattle.npf_possible.proofs.PossibleLemmas.{decoded_is_possible_lem}
use Rattle.npf_possible.proofs.laws.decoded_is_possible.Goals as goal

pub returns : goal.returns
returns c = decoded_is_possible_lem
