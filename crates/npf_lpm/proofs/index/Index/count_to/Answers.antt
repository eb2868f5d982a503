use Rattle.std.proofs.{Common.{◌-◌, rules}, Math.Dec.leb}
use Rattle.std.proofs.lemmas.List.Sorted.{IsPartitionPoint-from_clause, IsPartitionedBy-leb, IsNonDecreasingBy-take, IsNonDecreasingBy-drop}
use Rattle.npf_lpm.proofs.CutLemmas.{counted}
use Rattle.npf_lpm.proofs.index.Index.count_to.Goals as goal

pub returns : goal.returns
returns c =
    let fs = c.args.firsts.now in
    let low = c.bounds-low.result.0 in
    let high = c.bounds-low.result.1 in
    let parted = IsPartitionedBy-leb (λ x. x) _ c.args.addr (IsNonDecreasingBy-take (λ x. x) (high - low) _ (IsNonDecreasingBy-drop (λ x. x) low fs c.requires.rises)) in
    let point = IsPartitionPoint-from_clause (λ x. leb x c.args.addr) _ _ c.partition_point.ensures.partitioned parted (λ a r q k. search rules) in
    counted fs c.args.addr low high c.partition_point.result c.bounds-low.ensures c.partition_point.ensures.bound point
