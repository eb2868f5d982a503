use Rattle.std.proofs.Common.{false, rules}
use Rattle.std.proofs.lemmas.Iterator.{YieldsList-from_map, YieldsList-from_slice, items_from_collect}
use Rattle.npf_types.proofs.PrefixLemmas.{Prefix-same}
use Rattle.npf_lpm.specs.Families.{prefix_of}
use Rattle.npf_lpm.proofs.lpm.wide_prefixes.Goals as goal

pub returns : goal.returns
returns c =
    let chain = YieldsList-from_slice {s = c.map.result.iter} c.args.blocks.now (cc) in
    let all = items_from_collect {s = c.map.result} c.collect.result c.collect.ensures.ran
    (YieldsList-from_map {s = c.map.result} _ (prefix_of false) chain (cc)
    (λ x r q k. (search rules, Prefix-same r (prefix_of false x.now) (search rules) (search rules)))) in
    rw c.in_ok-collect.was at all
