use Rattle.std.proofs.Common.{ℕ, rules}
use Rattle.std.proofs.lemmas.Iterator.{YieldsList-from_map, YieldsList-from_slice, YieldsList-from_zip, items_from_collect}
use Rattle.npf_lpm.specs.declared.aligned.Aligned.{Aligned}
use Rattle.npf_lpm.proofs.RowLemmas.{blocks_of_pairs}
use Rattle.npf_lpm.proofs.rows.blocks_of.Goals as goal

abbrev block_of : ℕ × ℕ → Aligned
block_of pair = record { first = pair.0; len = pair.1 }

pub returns : goal.returns
returns c =
    let chain = YieldsList-from_zip {s = c.map.result.iter} (YieldsList-from_slice {s = c.map.result.iter.a} c.args.firsts.now (cc))
    (YieldsList-from_slice {s = c.map.result.iter.b} c.args.lengths.now (cc)) in
    let all = items_from_collect {s = c.map.result} c.collect.result c.collect.ensures.ran
    (YieldsList-from_map {s = c.map.result} _ block_of chain (cc) (λ x r q k. search rules)) in
    rw (blocks_of_pairs c.args.firsts.now c.args.lengths.now) (rw c.in_ok-collect.was at all)
