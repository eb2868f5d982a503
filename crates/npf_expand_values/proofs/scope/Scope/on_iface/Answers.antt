use Rattle.std.proofs.Common.{ap, ◌∙◌}
use Rattle.npf_types.specs.declared.name.Name.{Name}
use Rattle.npf_model.specs.declared.rule.OnIf.{OnIf}
use Rattle.npf_expand_values.specs.{Iface.on_text, Scope.ifaces_of_scope}
use Rattle.npf_expand_values.proofs.scope.Scope.on_iface.Goals as goal

unnumbered : Name → OnIf
unnumbered name = record { name = name; id = record { 0 = 0 } }

pub returns-in-None : goal.returns-in-None
unfolding unnumbered
returns-in-None c = ap unnumbered c.name_of.ensures ∙ ap (on_text (ifaces_of_scope c.args.self.now)) c.in-None.ensures
