use Rattle.std.proofs.Common.{◌≡◌, ◌<◌, get_or, set, length, arith, sym}
use Rattle.std.proofs.lemmas.List.{get_or-set_same, get_or-set_other, get_or_read}
use Rattle.npf_cut.proofs.PartitionLemmas.{split_more}
use Rattle.npf_cut.proofs.partition.Partition.split.Goals as goal
use Rattle.npf_cut.proofs.partition.Partition.split.Goals.{then-class-fresh+in_ok-self, else-class-fresh}

pub loop-interval-preserved : goal.loop-interval-preserved
loop-interval-preserved c =
    let inv = c.loop-interval.invariant in
    let now = c.loop-interval.self.classes.items in
    let at = c.loop-interval.interval in
    let room : at < length now = omega arith in
    let read : c.index-class.result.now ≡ get_or now at 0 = get_or_read now at c.index-class.result.now room c.index-class.ensures 0 in
    elim c.if-class-fresh.branch [
      | then-class-fresh+in_ok-self w ↦
          let done = w.in_ok-self.ensures in
          rw w.self-is (split_more _ _ _ c.args.fresh c.args.span.from at inv (omega arith) (omega arith) (omega arith) done.room
          (λ before h. done.parts before now at room (sym read) h)
          (λ k ne. get_or-set_other now at k w.in_ok-self.field-0 0 ne)
          (let here : get_or (set now at w.in_ok-self.field-0) at 0 ≡ w.in_ok-self.field-0 = get_or-set_same now at w.in_ok-self.field-0 0 room in
          let fresh = done.fresh in omega arith))
      | else-class-fresh w ↦
          rw w.self-is (split_more _ _ _ c.args.fresh c.args.span.from at inv (omega arith) (omega arith) (omega arith) inv.room
          (λ before h. h) (λ k ne i. get_or now k 0) (let fresh = w.if-class-fresh.false in omega arith))
    ]
