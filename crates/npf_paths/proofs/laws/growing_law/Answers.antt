use Rattle.npf_paths.proofs.{BranchLemmas.{branch_long, branch_agrees, branch_parts, branch_same}, GrowingLemmas.growth_told}
use Rattle.npf_paths.proofs.HomeLemmas.{mine_along, theirs_along, leaves_home}
use Rattle.npf_paths.proofs.laws.growing_law.Goals as goal

pub returns-clause-parts : goal.returns-clause-parts
returns-clause-parts c = λ mine theirs cell leaf other level first nodes branch. (branch_long branch, branch_agrees branch, branch_parts branch)

pub returns-clause-same : goal.returns-clause-same
returns-clause-same c = λ mine theirs cell cell' leaf other level first nodes branch. branch_same branch

pub returns-clause-told : goal.returns-clause-told
returns-clause-told c = growth_told

pub returns-clause-along : goal.returns-clause-along
returns-clause-along c = λ mine theirs cell cell' leaf other level p first nodes grows small small'. (
  mine_along mine theirs cell cell' leaf other level p first nodes grows small,
  theirs_along mine theirs cell cell' leaf other level p first nodes grows small',
)

pub returns-clause-homes : goal.returns-clause-homes
returns-clause-homes c = leaves_home
