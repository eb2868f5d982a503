use Rattle.npf_icmpalg.{specs.{Header.header_addresses, Within.port_words}, proofs.SumLemmas.sum_after_both}
use Rattle.npf_icmpalg.proofs.error_translated.sum_after_quoted.Goals as goal

pub returns : goal.returns
returns c =
    sum_after_both c.args.zero c.args.bytes.now (header_addresses c.args.quoted.now.header)
    (port_words c.args.quoted.now) c.args.sum c.sum_after_addresses-sum.result c.sum_after_ports.result
    c.sum_after_addresses-sum.ensures c.sum_after_ports.ensures
