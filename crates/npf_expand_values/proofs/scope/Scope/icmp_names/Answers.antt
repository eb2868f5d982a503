use Rattle.std.{proofs.Common.{◌&&◌, ap, ◌∙◌}, specs.List.list_all}
use Rattle.npf_syntax.specs.declared.value.One.{One}
use Rattle.npf_expand_values.specs.declared.summary.Summary.{Summary}
use Rattle.npf_expand_values.specs.{Protocol.{is_protocol, one_binding}, Scope.env_of_scope, Use.atoms_of}
use Rattle.npf_expand_values.proofs.MessageLemmas.{all_more}
use Rattle.npf_expand_values.proofs.scope.Scope.icmp_names.Goals as goal

pub loop-one-preserved : goal.loop-one-preserved
loop-one-preserved c =
    let env = env_of_scope c.args.self.now in
    let summed = c.summary_of_one-summary.ensures in record {
      icmp = all_more (is_protocol 1) (λ one. atoms_of (one_binding env one)) _ c.loop-one.icmp _ c.args.protocols.now c.loop-one.one-index _ c.loop-one-test.true
          c.loop-one.invariant.icmp (ap (λ (s : Summary). c.loop-one.icmp && s.icmp) summed
          ∙ ap (λ (one : One). c.loop-one.icmp && list_all (is_protocol 1) (atoms_of (one_binding env one))) c.one-item.is);
      icmp6 = all_more (is_protocol 58) (λ one. atoms_of (one_binding env one)) _ c.loop-one.icmp6 _ c.args.protocols.now c.loop-one.one-index _ c.loop-one-test.true
          c.loop-one.invariant.icmp6 (ap (λ (s : Summary). c.loop-one.icmp6 && s.icmp6) summed
          ∙ ap (λ (one : One). c.loop-one.icmp6 && list_all (is_protocol 58) (atoms_of (one_binding env one))) c.one-item.is);
    }
