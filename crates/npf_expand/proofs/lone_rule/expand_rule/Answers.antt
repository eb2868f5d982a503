use Rattle.std.proofs.Common.{◌≡◌, IfOk, List, subst, ◌∙◌}
use Rattle.npf_model.specs.{declared.iface.Iface.Iface, Count.elements_of}
use Rattle.npf_expand.specs.LoneRule.{elements_alone}
use Rattle.npf_expand.proofs.lone_rule.expand_rule.Goals as goal

pub returns-clause-elements : goal.returns-clause-elements
returns-clause-elements c =
    subst (λ (list : List Iface). IfOk c.read_rule.result (λ rule. elements_of rule ≡ elements_alone c.args.tree.now list))
    (c.in_ok-interfaces.ensures ∙ c.as_slice.ensures) c.read_rule.ensures.elements
