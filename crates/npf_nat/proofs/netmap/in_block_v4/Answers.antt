use Rattle.std.proofs.{Common.{◌<◌, ◌≡◌, ◌^◌, arith}, Math.Facts.Fits-lt-pow}
use Rattle.npf_nat.{specs.Netmap.{in_block, host_bits}, proofs.NetmapLemmas.in_block_fits}
use Rattle.npf_nat.proofs.netmap.in_block_v4.Goals as goal

pub overflow_add-result : goal.overflow_add-result
overflow_add-result c =
    let fits : in_block 32 c.args.block c.args.n c.args.a < 2 ^ 32 = in_block_fits 32 c.args.n c.args.block c.args.a c.requires.short c.requires.zeroed (Fits-lt-pow c.ranges.block) in
    let host : c.host_bits_v4.result ≡ host_bits 32 c.args.n c.args.a = c.host_bits_v4.ensures in
    omega arith
