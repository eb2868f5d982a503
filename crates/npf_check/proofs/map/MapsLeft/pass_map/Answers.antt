use Rattle.std.proofs.Common.{◌∷◌, [], refl, ap, ◌∙◌}
use Rattle.npf_faults.specs.{declared.fault.Fault.TheVariants.BadMap, First.{earlier, fault_if, first_fault}}
use Rattle.npf_check.{specs.{Map.bad_map, WrittenMap.WrittenMap}, proofs.PairLemmas.{pairs_step, pairs_past}}
use Rattle.npf_check.proofs.map.MapsLeft.pass_map.Goals as goal

pub returns-in-Some-clause-first : goal.returns-in-Some-clause-first
returns-in-Some-clause-first c = λ written.
    let was = c.args.self.now in
    let here : WrittenMap = record { span = c.args.span; kind = c.args.kind.now; by_table = c.args.by_table } in
    pairs_step bad_map was.first c.earlier-self.result (here ∷ []) here written c.in-Some.map.now c.in-Some.rest.now was.rest.now
    refl c.in-Some.ensures.cases.0
    (c.earlier-self.ensures ∙ ap (earlier was.first) (c.fault_if.ensures
    ∙ ap (λ bad. first_fault (fault_if bad c.args.span BadMap)) c.is_refused-bad.ensures))

pub returns-in_default-clause-first : goal.returns-in_default-clause-first
returns-in_default-clause-first c = λ written.
    let here : WrittenMap = record { span = c.args.span; kind = c.args.kind.now; by_table = c.args.by_table } in
    pairs_past bad_map c.args.self.now.first (here ∷ []) written c.args.self.now.rest.now c.in_default.ensures.cases
