use Rattle.std.proofs.Common.{◌≡◌, ℕ, ◌∙◌, ◌&&◌, ◌||◌, ap, nat_le, nat_lt, arith}
use Rattle.npf_pieces.specs.Overlap.{is_filled}
use Rattle.npf_pieces.proofs.overlap.OpenSet.fill.Goals as goal

pub returns-clause-fills : goal.returns-clause-fills
returns-clause-fills c = λ k h.
    let e : c.loop-unit.unit ≡ c.args.to = omega (arith, c.loop-unit.auto.unit-end c.requires.order, c.loop-unit-test.false) in
    c.loop-unit.invariant.1 k h
    ∙ ap (λ (n : ℕ). is_filled c.args.self.now k || (nat_le c.args.from k && nat_lt k n)) e
