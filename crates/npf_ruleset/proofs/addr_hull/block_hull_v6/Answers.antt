use Rattle.std.proofs.Common.{◌+◌, ◌-◌, ◌/◌, ◌^◌, min, ap, ◌∙◌, arith}
use Rattle.npf_ruleset.proofs.RowLemmas.{block_v6}
use Rattle.npf_ruleset.proofs.addr_hull.block_hull_v6.Goals as goal

pub returns : goal.returns
returns c = λ addr same.
    let fits = c.ranges.first in
    let last = ap (λ k. k / 2 ^ 64) (c.saturating_add.ensures ∙ ap (λ k. min (c.args.first + k) (2 ^ 128 - 1)) c.host_bits.ensures) in
    rw (c.upper_half.ensures, c.upper_half-2.ensures, last) (block_v6 c.args.first c.args.len addr (omega arith) c.requires.short c.requires.zeroed same)
