use Rattle.std.proofs.Common.{◌∙◌}
use Rattle.npf_why.proofs.StandLemmas.{told_after}
use Rattle.npf_why.proofs.stand.those_that_stand.Goals as goal

pub candidates-preserved : goal.candidates-preserved
candidates-preserved c = record {
  same = c.in_ok-stands.ensures.same ∙ c.candidates.invariant.same;
  so_far = told_after c.args.tokens.now.items c.candidates.tokens.items c.candidates.invariant.same c.args.candidates.now c.candidates.candidate-index _ c.candidates-test.true
      c.in_ok-stands.stands c.in_ok-stands.ensures.stands _ _ c.in_ok-tell.ensures c.candidates.invariant.so_far;
}
