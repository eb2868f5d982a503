use Rattle.npf_bits.proofs.BitLemmas.{has-insert}
use Rattle.npf_bits.proofs.make.insert.Goals as goal

pub returns : goal.returns
returns c = λ n. has-insert c.args.words.now c.args.number n c.requires
