use Rattle.std.proofs.Common.{◌≤◌, ◌*◌, ◌^◌, arith}
use Rattle.std.proofs.Math.Nat.{mul-le-mul_right}
use Rattle.npf_products.proofs.axes.box_words.Goals as goal

pub returns-clause-small : goal.returns-clause-small
returns-clause-small c =
    let bound : c.args.count * c.args.words ≤ 2 ^ 64 * c.args.words = mul-le-mul_right c.args.words (let le : c.args.count ≤ 2 ^ 64 = omega arith in le) in
    omega arith
