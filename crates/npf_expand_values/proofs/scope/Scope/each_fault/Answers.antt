use Rattle.std.proofs.Common.{ap, sym, ◌∙◌}
use Rattle.npf_faults.{specs.First.{earlier, first_fault}, proofs.FirstLemmas.{each_end, each_step}}
use Rattle.npf_expand_values.specs.{Scope.{env_of_scope, ifaces_of_scope}, Variable.each_value_faults}
use Rattle.npf_expand_values.proofs.scope.Scope.each_fault.Goals as goal

pub loop-value-preserved : goal.loop-value-preserved
loop-value-preserved c =
    let scope = c.args.self.now in
    let faults = each_value_faults (ifaces_of_scope scope) (env_of_scope scope) c.args.role in
    record {
      left = each_step faults _ c.loop-value.first c.earlier-first.result c.args.values.now c.loop-value.value-index _ c.loop-value-test.true c.loop-value.invariant.left
          (c.earlier-first.ensures ∙ ap (earlier c.loop-value.first) (c.each_value_fault.ensures ∙ ap (λ value. first_fault (faults value)) c.value-item.is));
    }

pub returns : goal.returns
returns c =
    let scope = c.args.self.now in
    sym (each_end (each_value_faults (ifaces_of_scope scope) (env_of_scope scope) c.args.role) _ c.loop-value.first
    c.args.values.now c.loop-value.value-index c.loop-value-test.false c.loop-value.invariant.left)
