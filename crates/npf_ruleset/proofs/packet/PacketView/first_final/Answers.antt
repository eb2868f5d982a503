use Rattle.std.proofs.Common.{sym, ◌∙◌}
use Rattle.npf_ruleset.{specs.Packet.flat_decides, proofs.PlaceLemmas.{first_here, first_behind, first_nowhere}}
use Rattle.npf_ruleset.proofs.packet.PacketView.first_final.Goals as goal

pub returns-then-decides-clause-value : goal.returns-then-decides-clause-value
returns-then-decides-clause-value c =
    first_here (flat_decides c.args.self.now) c.loop-at.at c.args.rules.now c.index-rules-at.result c.loop-at-test.true c.index-rules-at.is (sym c.decides.ensures ∙ c.if-decides.true)
    ∙ sym c.loop-at.invariant

pub loop-at-preserved : goal.loop-at-preserved
loop-at-preserved c =
    c.loop-at.invariant
    ∙ first_behind (flat_decides c.args.self.now) c.loop-at.at c.args.rules.now c.index-rules-at.result c.loop-at-test.true c.index-rules-at.is (sym c.decides.ensures ∙ c.if-decides.false)

pub returns-clause-value : goal.returns-clause-value
returns-clause-value c = sym (c.loop-at.invariant ∙ first_nowhere (flat_decides c.args.self.now) c.loop-at.at c.args.rules.now c.loop-at-test.false)
