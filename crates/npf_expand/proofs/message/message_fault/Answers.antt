use Rattle.std.proofs.Common.{sym, ◌∙◌}
use Rattle.npf_names.specs.Icmp.{types_of}
use Rattle.npf_expand_values.{specs.{Message.{message_faults, message_number}, Scope.env_of_scope}, proofs.FaultLemmas.{first_told}}
use Rattle.npf_expand.specs.Rule.{code_faults}
use Rattle.npf_expand.proofs.message.message_fault.Goals as goal

pub returns-in-Some : goal.returns-in-Some
returns-in-Some c =
    let env = env_of_scope c.args.scope.now in
    let types = types_of c.args.names in
    sym (first_told (message_faults types env c.args.kind.now) (code_faults env c.args.names (message_number types env c.args.kind.now) c.args.code.now) c.in-Some.fault
    (sym c.message_fault.ensures ∙ c.in-Some.is))
