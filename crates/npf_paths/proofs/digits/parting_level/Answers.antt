use Rattle.std.proofs.Common.{arith}
use Rattle.npf_paths.proofs.DigitsLemmas.{same_key}
use Rattle.npf_paths.proofs.digits.parting_level.Goals as goal

pub returns-clause-same : goal.returns-clause-same
returns-clause-same c = λ none.
    same_key c.args.hash c.args.other_hash c.args.key.now c.args.other.now c.words_fit.ensures c.words_fit-2.ensures
    (λ level from below. c.loop-level.invariant level (omega arith))
