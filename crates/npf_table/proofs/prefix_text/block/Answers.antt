use Rattle.npf_table.proofs.PrefixTextLemmas.{block_reading, no_address}
use Rattle.npf_table.proofs.prefix_text.block.Goals as goal

pub returns-in_default : goal.returns-in_default
returns-in_default c = no_address c.args.address.now c.args.digits.now c.in_default.ensures

pub returns : goal.returns
returns c = block_reading c.args.address.now c.args.digits.now c.in-Some.addr c.in-Some-length_of.len c.of.result
    c.in-Some.ensures c.in-Some-length_of.ensures c.of.ensures.fits c.of.ensures.addr c.of.ensures.len
