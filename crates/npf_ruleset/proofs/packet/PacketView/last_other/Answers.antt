use Rattle.std.proofs.Common.{◌≡◌, ◌-◌, suc, take, sym, ap, ◌∙◌, arith}
use Rattle.npf_model.specs.Verdict.{last_where}
use Rattle.npf_ruleset.{specs.Packet.is_other, proofs.PlaceLemmas.{last_here, last_before, last_whole}}
use Rattle.npf_ruleset.proofs.packet.PacketView.last_other.Goals as goal

pub loop-at-init : goal.loop-at-init
loop-at-init c = last_whole (is_other c.args.self.now) c.args.rules.now

pub returns-then-is_other-clause-value : goal.returns-then-is_other-clause-value
returns-then-is_other-clause-value c =
    let at : suc (c.loop-at.at - 1) ≡ c.loop-at.at = omega arith in
    last_here (is_other c.args.self.now) (c.loop-at.at - 1) c.args.rules.now c.index-rules-at.result (omega arith) c.index-rules-at.is (sym c.is_other.ensures ∙ c.if-is_other.true)
    ∙ ap (λ k. last_where (is_other c.args.self.now) 0 (take k c.args.rules.now)) at
    ∙ sym c.loop-at.invariant

pub loop-at-preserved : goal.loop-at-preserved
loop-at-preserved c =
    let at : suc (c.loop-at.at - 1) ≡ c.loop-at.at = omega arith in
    c.loop-at.invariant
    ∙ sym (ap (λ k. last_where (is_other c.args.self.now) 0 (take k c.args.rules.now)) at)
    ∙ last_before (is_other c.args.self.now) (c.loop-at.at - 1) c.args.rules.now c.index-rules-at.result (omega arith) c.index-rules-at.is (sym c.is_other.ensures ∙ c.if-is_other.false)
