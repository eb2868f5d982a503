use Rattle.npf_rewrite.proofs.WordLemmas.{rewrites_both}
use Rattle.npf_icmpalg.proofs.error_translated.write_ends.Goals as goal

pub returns : goal.returns
returns c =
    rewrites_both _ _ _ _ _ (rewrites_both _ _ _ _ _ c.write_addresses.ensures c.write_addresses-2.ensures)
    (rewrites_both _ _ _ _ _ c.write_named.ensures c.write_named-2.ensures)
