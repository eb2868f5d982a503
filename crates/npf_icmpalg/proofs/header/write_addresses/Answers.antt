use Rattle.std.proofs.Common.{ap}
use Rattle.npf_rewrite.{specs.Address.end_words, proofs.WordLemmas.{rewrites_as, rewrites_both}}
use Rattle.npf_icmpalg.proofs.header.write_addresses.Goals as goal

pub returns : goal.returns
returns c =
    let header = c.args.header.now in
    let one = rewrites_as _ _ _ _ (ap (λ at. end_words at header.src) c.source_at.ensures.value)
    c.write_end.ensures in
    let two = rewrites_as _ _ _ _ (ap (λ at. end_words at header.dst) c.destination_at.ensures.value)
    c.write_end-2.ensures in
    rewrites_both _ _ _ _ _ one two
