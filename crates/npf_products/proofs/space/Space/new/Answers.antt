use Rattle.std.proofs.Common.{◌∙◌, [], ap, arith, get_or, refl, subst}
use Rattle.npf_products.specs.Axis.{AreAxes}
use Rattle.npf_products.specs.Condition.{all_fit}
use Rattle.npf_products.specs.Number.{numbers_of}
use Rattle.npf_products.proofs.space.Space.new.Goals as goal

pub returns-clause-space : goal.returns-clause-space
returns-clause-space c =
    let kind = c.args.kind in
    let lists = c.in_ok-lists.lists.items in
    let axes = c.in_ok-axes.axes.items in
    record {
      cut = subst (λ ts. AreAxes kind ts lists axes) c.as_slice.ensures.value
          (subst (λ ls. AreAxes kind c.as_slice.result.now ls axes) c.as_slice-2.ensures.value c.in_ok-axes.ensures.axes);
      of_kind = refl;
      count = omega (arith, c.in_ok-lists.ensures.lists.count);
      told = λ k none facts ifid dir low packet.
          ap (λ ts. all_fit ts (numbers_of facts ifid dir) (get_or lists k [])) c.in_ok-tables.ensures
          ∙ (c.in_ok-lists.ensures.lists.asked k none low).same c.args.tables.now facts ifid dir packet;
    }
