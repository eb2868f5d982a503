use Rattle.npf_ctl_witnesses.proofs.FilesLemmas.{are_in_files}
use Rattle.npf_ctl_witnesses.proofs.laws.witnesses_are_in_files.Goals as goal

pub returns : goal.returns
returns c = are_in_files c.possible_has_witness.ensures
