use Rattle.std.proofs.Common.{◌∙◌, ap, [], ◌∷◌, ◌++◌, ◌+◌}
use Rattle.npf_search.proofs.RegionLemmas.{range_more}
use Rattle.npf_search.proofs.region.Region.with_earlier.Goals as goal

pub loop-at-preserved : goal.loop-at-preserved
loop-at-preserved c =
    let at = c.loop-at.at in
    let first = c.args.decider.first in
    c.in_ok-push.ensures.items
    ∙ ap (λ items. items ++ (first + at) ∷ []) c.loop-at.invariant
    ∙ range_more c.args.self.now.before.items first at
