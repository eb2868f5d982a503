use Rattle.npf_expand.proofs.StepLemmas.{met_rule}
use Rattle.npf_expand.proofs.met.NodeTally.meet_rule.Goals as goal

pub returns : goal.returns
returns c = λ faults elements is more.
    met_rule c.args.self.now _ c.args.fault c.passing_fault-passing.result c.earlier-both.result c.args.more c.args.span faults elements
    c.earlier-self.ensures c.earlier-both.ensures c.passing_fault-passing.ensures c.counted_both-self.ensures is more
