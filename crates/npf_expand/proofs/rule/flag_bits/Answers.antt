use Rattle.std.proofs.{Common.{◌≡◌, ◌+◌, ◌-◌, ◌∷◌, bit_or, drop, get_or, sym, ap, ◌∙◌, arith}, lemmas.List.drop_more}
use Rattle.npf_expand.specs.Rule.{flag_bit, flag_bits}
use Rattle.npf_expand.proofs.rule.flag_bits.Goals as goal

pub loop-at-preserved : goal.loop-at-preserved
loop-at-preserved c =
    let letters = c.args.letters.now in
    let at = c.loop-at.at - 1 in
    let back : at + 1 ≡ c.loop-at.at = omega (arith, c.loop-at-test.true) in
    let letter = get_or letters at 0 in
    record {
      within = omega (arith, c.loop-at.invariant.within);
      so_far = ap (λ b. bit_or b c.loop-at.bits) c.flag_bit-bits.ensures ∙ ap (bit_or (flag_bit letter)) c.loop-at.invariant.so_far
          ∙ sym (ap flag_bits (drop_more letters at 0 (omega (arith, c.loop-at.invariant.within, c.loop-at-test.true)) ∙ ap (λ k. letter ∷ drop k letters) back));
    }
