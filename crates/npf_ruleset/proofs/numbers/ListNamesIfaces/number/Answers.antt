use Rattle.std.proofs.{Common.{◌≡◌, ◌++◌, length, map, take, drop, ap, sym, ◌∙◌, arith}, Math.Seq.{take-append_seam, take-length}}
use Rattle.npf_ruleset.proofs.NumberLemmas.{changed}
use Rattle.npf_ruleset.proofs.numbers.ListNamesIfaces.number.Goals as goal

pub loop-item-preserved : goal.loop-item-preserved
loop-item-preserved g c =
    changed (g.T.NamesIfaces.numbered c.args.ifaces.now) c.loop-item.item-items c.as_mut_slice-item-items.result.now c.loop-item.item-index c.item-item.result c.loop-item.auto.item-items
    c.number.new.self (let lt = c.loop-item-test.true in let l = c.loop-item.auto.item-items in omega arith) c.loop-item.invariant.0 c.loop-item.invariant.1 c.number.ensures

pub returns : goal.returns
returns g c =
    let was = c.as_mut_slice-item-items.ensures.value in let len = c.loop-item.auto.item-items in
    let past = c.loop-item-test.false in let end = c.loop-item.auto.item-index-end in
    let old_len = ap length was in
    let last : c.loop-item.item-index ≡ length c.loop-item.item-items = omega arith in
    let last_before : c.loop-item.item-index ≡ length c.as_mut_slice-item-items.result.now = omega arith in
    let whole : length c.args.self.now ≡ length c.loop-item.item-items = omega arith in
    ap (λ k. take k (c.loop-item.item-items ++ drop (length c.loop-item.item-items) c.args.self.now)) whole
    ∙ take-append_seam c.loop-item.item-items (drop (length c.loop-item.item-items) c.args.self.now)
    ∙ sym (ap (λ k. take k c.loop-item.item-items) last ∙ take-length c.loop-item.item-items)
    ∙ c.loop-item.invariant.0
    ∙ ap (map (g.T.NamesIfaces.numbered c.args.ifaces.now)) (ap (λ k. take k c.as_mut_slice-item-items.result.now) last_before ∙ take-length c.as_mut_slice-item-items.result.now ∙ was)
