use Rattle.std.proofs.{Common.{◌<◌, ◌-◌, ◌+◌, length, arith, true≢false, sym, ◌∙◌}, lemmas.List.get_or_default}
use Rattle.npf_lpm.{specs.Cut.IsCut, proofs.TopLemmas.{none_below, last_decides}}
use Rattle.npf_lpm.proofs.blocks.Blocks.contains.Goals as goal

pub returns-then-count-eq0 : goal.returns-then-count-eq0
returns-then-count-eq0 c =
    let cut : IsCut (λ first. first) (c.args.addr + 1) c.self.inside.firsts.items c.count_to-count.result = rw (← c.deref.ensures.value) c.count_to-count.ensures in
    rw (← c.self.view_is) (λ h. absurd (true≢false (sym h)), λ has. absurd (none_below _ _ _ c.self.invariant.rows c.args.addr _ cut c.if-count-eq0.true has))

pub returns : goal.returns
returns c =
    let fs = c.self.inside.firsts.items in
    let ts = c.self.inside.outermost.items in
    let cut : IsCut (λ first. first) (c.args.addr + 1) fs c.count_to-count.result = rw (← c.deref.ensures.value) c.count_to-count.ensures in
    let last = c.count_to-count.result - 1 in
    let some = c.if-count-eq0.false in
    let within : last < length fs = omega (arith, cut.most) in
    let d = last_decides fs c.self.inside.lengths.items ts c.self.invariant.rows c.args.addr c.count_to-count.result c.index.result.now c.index-2.result.now cut (omega arith)
    (c.index.ensures ∙ get_or_default ts last _ 0 (omega (arith, c.self.invariant.rows.beside))) (c.index-2.ensures ∙ get_or_default fs last _ 0 within) in
    rw (← c.self.view_is) (λ h. d.0 (c.agrees_in.ensures.0 h), λ has. c.agrees_in.ensures.1 (d.1 has))
