use Rattle.npf_rewrite.specs.Word.{word_list}
use Rattle.npf_icmpalg.proofs.SumLemmas.{sum_after_both}
use Rattle.npf_icmpalg.proofs.error_translated.sum_after_ports.Goals as goal

pub returns : goal.returns
returns c =
    sum_after_both c.args.zero c.args.bytes.now (word_list c.args.quoted.now.source)
    (word_list c.args.quoted.now.destination) c.args.sum c.sum_after_named-sum.result c.sum_after_named.result
    c.sum_after_named-sum.ensures c.sum_after_named.ensures
