use Rattle.std.proofs.Common.{Err, sym, subst}
use Rattle.npf_faults.specs.declared.fault.Refused.{Refused}
use Rattle.npf_parser.specs.{Parse.{HaltsAt, OnFault, StopsAt}, Stmt.file}
use Rattle.npf_syntax.specs.declared.stmt.Tree.{Tree}
use Rattle.npf_why.proofs.StandLemmas.{by_place}
use Rattle.npf_why.proofs.stand.passes.Goals as goal

pub returns : goal.returns
returns c =
    let tokens = c.args.tokens.now in
    let told = c.in-Err-Fault in
    by_place tokens told.fault.span c.is_behind.result
    (subst (λ (r : Refused). OnFault {A = Tree} (Err r) (λ f. HaltsAt file tokens f.span)) told.field-0-is told.ensures.halts)
    (subst (λ (r : Refused). OnFault {A = Tree} (Err r) (λ f. StopsAt file tokens f.span)) told.field-0-is told.ensures.stops) (sym c.is_behind.ensures)
