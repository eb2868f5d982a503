use Rattle.std.proofs.{Common.{◌<◌, ◌≤◌, ◌-◌, ◌∙◌, ap, sym, get_or, rules, arith, ℕ, length}, Math.Dec.{leb}}
use Rattle.std.proofs.lemmas.{List.{get_or_read, Sorted.{IsPartitionPoint-from_clause, IsPartitionedBy-leb}}}
use Rattle.npf_cut.proofs.StartLemmas.{non_decreasing, searched_interval}
use Rattle.npf_cut.proofs.dimension.Dimension.class_at.Goals as goal

pub returns : goal.returns
returns c =
    let cut = c.args.self.now in
    let starts = cut.starts.items in
    let behind = c.partition_point-behind.result in
    let some : 0 < length starts = let h = cut.some in let ok = cut.starts.ok in omega arith in
    let parted = IsPartitionedBy-leb (λ x. x) starts c.args.number (non_decreasing starts cut.rises) in
    let point = IsPartitionPoint-from_clause (λ x. leb x c.args.number) starts _ (rw c.deref.ensures.value at c.partition_point-behind.ensures.partitioned) parted (λ a r q k. search rules) in
    let found = searched_interval starts cut.rises some cut.zero c.args.number behind (rw c.deref.ensures.value at c.partition_point-behind.ensures.bound) point in
    let most : behind ≤ length starts = rw c.deref.ensures.value at c.partition_point-behind.ensures.bound in
    let lt : behind - 1 < length cut.classes.items = let pairs = cut.paired in let more = found.1 in omega arith in
    get_or_read cut.classes.items (behind - 1) c.index.result.now lt (rw c.saturating_sub.ensures at c.index.ensures) 0 ∙ ap (λ (n : ℕ). get_or cut.classes.items n 0) (sym found.0)
