use Rattle.npf_cells_pins.proofs.EpochLemmas.{holds_epoch_back, scans_pass_by}
use Rattle.npf_cells_pins.proofs.laws.pins_law.Goals as goal

pub returns-clause-within : goal.returns-clause-within
returns-clause-within c = holds_epoch_back

pub returns-clause-scans : goal.returns-clause-scans
returns-clause-scans c = scans_pass_by
