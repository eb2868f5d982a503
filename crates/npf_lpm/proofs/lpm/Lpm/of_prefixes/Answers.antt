use Rattle.npf_lpm.proofs.BothLemmas.{all_families, all_prefixes, parted_aligned}
use Rattle.npf_lpm.proofs.lpm.Lpm.of_prefixes.Goals as goal

pub of_blocks-requires : goal.of_blocks-requires
of_blocks-requires c = rw c.in_ok-narrow_blocks.ensures (parted_aligned _)

pub of_blocks-requires-2 : goal.of_blocks-requires-2
of_blocks-requires-2 c = rw c.in_ok-wide_blocks.ensures (parted_aligned _)

pub invariant_of-result : goal.invariant_of-result
invariant_of-result c = all_families c.args.prefixes.now c.in_ok-of_blocks.field-0 c.in_ok-of_blocks-2.field-0
    (rw c.in_ok-narrow_blocks.ensures at c.in_ok-of_blocks.ensures) (rw c.in_ok-wide_blocks.ensures at c.in_ok-of_blocks-2.ensures)

pub returns : goal.returns
returns c = all_prefixes c.args.prefixes.now c.in_ok-of_blocks.field-0 c.in_ok-of_blocks-2.field-0
    (rw c.in_ok-narrow_blocks.ensures at c.in_ok-of_blocks.ensures) (rw c.in_ok-wide_blocks.ensures at c.in_ok-of_blocks-2.ensures)
