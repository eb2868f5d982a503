use Rattle.npf_paths_pruning.proofs.PruningLemmas.{pruning_told, pruned_levels, pruned_unmet, clearing_fills}
use Rattle.npf_paths_pruning.proofs.prune_law.Goals as goal

pub returns-clause-told : goal.returns-clause-told
returns-clause-told c = pruning_told

pub returns-clause-levels : goal.returns-clause-levels
returns-clause-levels c = pruned_levels

pub returns-clause-unmet : goal.returns-clause-unmet
returns-clause-unmet c = pruned_unmet

pub returns-clause-cleared : goal.returns-clause-cleared
returns-clause-cleared c = clearing_fills
