use Rattle.std.{proofs.Common.{◌≡◌, None, List, sym, ap, ◌∙◌}, specs.List.flat_map}
use Rattle.npf_faults.specs.First.{first_fault}
use Rattle.npf_syntax.specs.declared.value.One.{One}
use Rattle.npf_expand_values.specs.{Protocol.{protocol_faults, protocols_faults, written_ones}, Scope.env_of_scope}
use Rattle.npf_expand_values.proofs.FaultLemmas.{others_told}
use Rattle.npf_expand.specs.Rule.{detail_faults_beside}
use Rattle.npf_expand.proofs.filter.written_part_fault.Goals as goal

pub returns-in-None : goal.returns-in-None
returns-in-None c =
    let env = env_of_scope c.args.scope.now in
    let part = c.args.part.now in
    let written = c.written_ones-protocols.ensures in
    let none : first_fault (protocols_faults env part.protocols) ≡ None =
    sym (c.ones_fault.ensures ∙ ap (λ (ones : List One). first_fault (flat_map (protocol_faults env) ones)) written) ∙ c.in-None.is in
    c.fault_beside.ensures ∙ ap (λ (ones : List One). first_fault (detail_faults_beside env ones part.detail)) written
    ∙ sym (others_told (protocols_faults env part.protocols) (detail_faults_beside env (written_ones part.protocols) part.detail) none)
