use Rattle.npf_paths.proofs.LevelLemmas.{bare_has_levels, filled_levels, grown_levels}
use Rattle.npf_paths.proofs.laws.level_law.Goals as goal

pub returns-clause-bare : goal.returns-clause-bare
returns-clause-bare c = bare_has_levels

pub returns-clause-filled : goal.returns-clause-filled
returns-clause-filled c = λ cell cell' p fills. filled_levels fills

pub returns-clause-grown : goal.returns-clause-grown
returns-clause-grown c = grown_levels
