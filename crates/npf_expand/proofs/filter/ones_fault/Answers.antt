use Rattle.std.proofs.Common.{ap, sym, ◌∙◌}
use Rattle.npf_faults.{specs.First.{earlier, first_fault}, proofs.FirstLemmas.{each_end, each_step}}
use Rattle.npf_expand_values.specs.{Scope.env_of_scope, Protocol.protocol_faults}
use Rattle.npf_expand.proofs.filter.ones_fault.Goals as goal

pub loop-one-preserved : goal.loop-one-preserved
loop-one-preserved c =
    let scope = c.args.scope.now in
    let faults = protocol_faults (env_of_scope scope) in
    record {
      left = each_step faults _ c.loop-one.first c.earlier-first.result c.args.ones.now c.loop-one.one-index _ c.loop-one-test.true c.loop-one.invariant.left
          (c.earlier-first.ensures ∙ ap (earlier c.loop-one.first) (c.one_fault.ensures ∙ ap (λ value. first_fault (faults value)) c.one-item.is));
    }

pub returns : goal.returns
returns c =
    let scope = c.args.scope.now in
    sym (each_end (protocol_faults (env_of_scope scope)) _ c.loop-one.first c.args.ones.now c.loop-one.one-index c.loop-one-test.false c.loop-one.invariant.left)
