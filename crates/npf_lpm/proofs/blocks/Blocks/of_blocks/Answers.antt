use Rattle.std.proofs.{Common.{◌≡◌, List, Contains, sym, ◌∙◌, subst}, lemmas.Result.IfOk-weaker}
use Rattle.npf_lpm.{specs.{declared.aligned.Aligned.Aligned, Agree.IsAligned}, proofs.ChangeLemmas.All-members}
use Rattle.npf_lpm.proofs.blocks.Blocks.of_blocks.Goals as goal

pub in_order-requires-clause-aligned : goal.in_order-requires-clause-aligned
in_order-requires-clause-aligned c = rw c.deref.ensures.value (All-members IsAligned c.args.blocks.items c.sort_once.new.blocks.items c.sort_once.ensures.same c.requires)

pub returns : goal.returns
returns c = IfOk-weaker c.in_order.result _ _
    (λ table is block.
    let all : table ≡ c.sort_once.new.blocks.items = is ∙ c.deref.ensures.value in (
      λ h. (c.sort_once.ensures.same block).0 (subst (λ (bs : List Aligned). Contains bs block) all h),
      λ h. subst (λ (bs : List Aligned). Contains bs block) (sym all) ((c.sort_once.ensures.same block).1 h),
    ))
    c.in_order.ensures
