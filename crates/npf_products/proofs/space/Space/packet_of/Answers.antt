use Rattle.std.proofs.Common.{◌∙◌, ap, arith}
use Rattle.npf_products.specs.Axis.{cell_of_numbers}
use Rattle.npf_products.specs.Product.{is_possible_first}
use Rattle.npf_products.proofs.BoxingLemmas.{some_axis}
use Rattle.npf_products.proofs.SpaceLemmas.{cell_again, members_low}
use Rattle.npf_products.proofs.space.Space.packet_of.Goals as goal

pub packet_with-requires-clause-size : goal.packet_with-requires-clause-size
packet_with-requires-clause-size c =
    let space = c.args.self.now in
    members_low space.kind space.tables.items space.lists.items space.axes.items c.requires.cut c.args.cell.now c.loop-dimension.numbers c.requires.possible.classes
    (λ d none low. c.loop-dimension.invariant.members d none (omega arith)) (some_axis space.axes.items space.six)

pub packet_with-requires-clause-possible : goal.packet_with-requires-clause-possible
packet_with-requires-clause-possible c =
    let space = c.args.self.now in
    let none = some_axis space.axes.items space.six in
    ap (is_possible_first space.kind.carried space.kind.family) (c.loop-dimension.invariant.members 3 none (omega arith)) ∙ c.requires.possible.first none

pub returns-clause-cell : goal.returns-clause-cell
returns-clause-cell c =
    let space = c.args.self.now in
    ap (cell_of_numbers space.axes.items) c.packet_with.ensures.numbers
    ∙ cell_again space.kind space.tables.items space.lists.items space.axes.items space.six c.requires.cut c.args.cell.now c.loop-dimension.numbers (omega arith)
    c.requires.possible.classes (λ d none low. c.loop-dimension.invariant.members d none (omega arith)) (some_axis space.axes.items space.six)
