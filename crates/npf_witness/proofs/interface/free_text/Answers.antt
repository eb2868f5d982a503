use Rattle.std.proofs.Common.{◌≡◌, ◌+◌, ◌-◌, suc, length, ap, sym, ◌∙◌, arith}
use Rattle.npf_witness.specs.WitnessText.{is_some_name}
use Rattle.npf_witness.proofs.NameLemmas.{first_free, passed_over}
use Rattle.npf_witness.proofs.interface.free_text.Goals as goal

pub loop-number-preserved : goal.loop-number-preserved
loop-number-preserved c =
    let ifaces = c.args.ifaces.now in
    let n = c.loop-number.number in
    c.loop-number.invariant
    ∙ passed_over ifaces n (length ifaces - (n + 1)) (length ifaces - n) c.in_ok-text.text.items c.in_ok-text.ensures (omega (arith, c.loop-number-test.true)) c.is_some_name.result
    (c.is_some_name.ensures ∙ ap (λ text. is_some_name text ifaces) c.as_slice.ensures.value) c.if-not-is_some_name.false

pub returns-then-not-is_some_name : goal.returns-then-not-is_some_name
returns-then-not-is_some_name c =
    let ifaces = c.args.ifaces.now in
    let n = c.loop-number.number in
    sym
    (c.loop-number.invariant
    ∙ first_free ifaces n (length ifaces - (n + 1)) (length ifaces - n) c.in_ok-text.text.items c.in_ok-text.ensures (omega (arith, c.loop-number-test.true)) c.is_some_name.result
    (c.is_some_name.ensures ∙ ap (λ text. is_some_name text ifaces) c.as_slice.ensures.value) c.if-not-is_some_name.true)
