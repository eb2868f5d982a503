use Rattle.npf_paths.proofs.DigitsLemmas.{same_key, keys_part}
use Rattle.npf_paths.proofs.laws.digit_law.Goals as goal

pub returns-clause-told : goal.returns-clause-told
returns-clause-told c = same_key

pub returns-clause-parted : goal.returns-clause-parted
returns-clause-parted c = keys_part
