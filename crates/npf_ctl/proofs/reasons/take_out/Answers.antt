use Rattle.std.proofs.Common.{ℕ, List, subst}
use Rattle.npf_why.specs.Remains.{TakesOutPart}
use Rattle.npf_ctl.proofs.reasons.take_out.Goals as goal

pub returns-clause-taken : goal.returns-clause-taken
returns-clause-taken c =
    let behind = c.in_ok-behind.behind in
    record {
      lost = behind.gone.items;
      takes = subst (λ (text : List ℕ). TakesOutPart text c.args.span behind.left.items behind.gone.items) c.as_slice.ensures.value
          c.in_ok-behind.ensures.taken;
      gone = c.in_ok-append.ensures.items;
    }
