use Rattle.std.proofs.{Common.{rules}, Math.Dec.{leb, ltb}}
use Rattle.std.proofs.lemmas.List.Sorted.{IsPartitionPoint-from_clause, IsPartitionedBy-leb, IsPartitionedBy-ltb}
use Rattle.npf_cut.proofs.{SpanLemmas.span_is, StartLemmas.non_decreasing}
use Rattle.npf_cut.proofs.span.span_at.Goals as goal

pub returns : goal.returns
returns c =
    let starts = c.args.starts.now in
    let range = c.args.range.now in
    let up = non_decreasing starts c.requires in
    let low = IsPartitionPoint-from_clause (λ x. ltb x range.low) _ _ c.partition_point-from.ensures.partitioned (IsPartitionedBy-ltb (λ x. x) _ range.low up) (λ a r q k. search rules) in
    let high = IsPartitionPoint-from_clause (λ x. leb x range.high) _ _ c.partition_point-to.ensures.partitioned (IsPartitionedBy-leb (λ x. x) _ range.high up) (λ a r q k. search rules) in
    rw c.max.ensures (span_is starts range c.partition_point-from.result c.partition_point-to.result c.partition_point-from.ensures.bound c.partition_point-to.ensures.bound low high)
