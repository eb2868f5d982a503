use Rattle.std.proofs.Common.{◌<◌, ◌+◌, ◌-◌, ◌^◌, arith}
use Rattle.npf_products.proofs.BlockLemmas.{block_fits}
use Rattle.npf_products.proofs.block.last_number.Goals as goal

pub overflow_add-result-in-V6 : goal.overflow_add-result-in-V6
overflow_add-result-in-V6 c =
    let others = c.others-in-V6.ensures in
    let fits : c.in-V6.first + (2 ^ (128 - c.args.prefix.now.len) - 1) < 2 ^ 128 = block_fits c.args.prefix.now c.in-V6.first c.in-V6.is (omega arith) in
    omega arith
