use Rattle.npf_products.proofs.axes.axis_of.Goals as goal

pub returns-clause-axis : goal.returns-clause-axis
returns-clause-axis c = record {
  ranges = c.in_ok-sets.sets.ranges.items;
  cut = c.in_ok-cut.ensures.cut;
  sets = c.in_ok-sets.ensures;
}
