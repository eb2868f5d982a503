use Rattle.npf_ctl_compare.proofs.differences.differences_of.Goals as goal

pub returns-then-count-gt-MAX_PAIRS-clause-err : goal.returns-then-count-gt-MAX_PAIRS-clause-err
returns-then-count-gt-MAX_PAIRS-clause-err c =
    (c.in_ok-differences.differences, c.in_ok-differences.ensures.ok, c.pairs-count.ensures, c.if-count-gt-MAX_PAIRS.true)
