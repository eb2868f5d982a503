use Rattle.std.proofs.Common.{◌≤◌, ◌&&◌, ◌∙◌, ap, arith, get_or, length}
use Rattle.std.proofs.lemmas.Result.{on_ok_weaker}
use Rattle.npf_bits.specs.Bits.{has}
use Rattle.npf_boxes.specs.Cell.{section}
use Rattle.npf_boxes.proofs.SectionLemmas.{length-section, section_kept, section_written}
use Rattle.npf_products.specs.Condition.{tables_in, unless_excluded}
use Rattle.npf_products.specs.Narrow.{some_has_class}
use Rattle.npf_products.proofs.BoxingLemmas.{le_from, met_by, some_axis, within_by}
use Rattle.npf_products.proofs.space.Space.narrow_by.Goals as goal

pub narrow-requires-clause-whole : goal.narrow-requires-clause-whole
unfolding section
narrow-requires-clause-whole c =
    let space = c.args.self.now in
    let condition = c.args.condition.now in
    let d = condition.dimension in
    let none = some_axis space.axes.items space.six in
    let row = c.requires.rows d none c.index-rows-dimension.result (omega (arith, condition.known, space.six)) in
    let words = ap (λ bits. bits.per_set) c.index-rows-dimension.is ∙ row.words in
    length-section space.shape d c.args.words.now condition.known c.requires.whole ∙ omega (arith, space.shape_is d none condition.known, words)

pub narrow-requires-clause-own : goal.narrow-requires-clause-own
narrow-requires-clause-own c =
    let space = c.args.self.now in
    let condition = c.args.condition.now in
    let d = condition.dimension in
    let none = some_axis space.axes.items space.six in
    let row = c.requires.rows d none c.index-rows-dimension.result (omega (arith, condition.known, space.six)) in
    let sets = ap (λ bits. bits.sets) c.index-rows-dimension.is ∙ row.sets in
    omega (arith, c.requires.own.known none, sets)

pub narrow-requires-clause-tables : goal.narrow-requires-clause-tables
narrow-requires-clause-tables c =
    let space = c.args.self.now in
    let condition = c.args.condition.now in
    let d = condition.dimension in
    let none = some_axis space.axes.items space.six in
    let row = c.requires.rows d none c.index-rows-dimension.result (omega (arith, condition.known, space.six)) in
    let sets = ap (λ bits. bits.sets) c.index-rows-dimension.is ∙ row.sets in
    let axis = get_or space.axes.items d none in
    let few : length (tables_in d space.tables.items) ≤ axis.count =
    le_from _ _ (λ table low. ((c.requires.cut d none condition.known).sets.of_tables table low).known) in
    omega (arith, few, sets, c.table_count-tables.ensures)

pub returns-clause-met : goal.returns-clause-met
unfolding section
returns-clause-met c =
    let space = c.args.self.now in
    let condition = c.args.condition.now in
    let d = condition.dimension in
    let bits = c.index-rows-dimension.result in
    let old = c.args.words.now in
    on_ok_weaker _ (λ each. met_by space.kind space.tables.items space.lists.items space.axes.items space.six c.requires.cut space.shape c.args.rows.now bits condition
    c.args.own old _ c.requires.rows c.index-rows-dimension.is c.requires.own
    (λ n. ap (λ s. has s n) (section_written space.shape d old _ condition.known c.requires.whole c.narrow.auto.words)
    ∙ each n
    ∙ ap (λ count. has (section space.shape d old) n && unless_excluded condition.excluded (some_has_class bits c.args.own count condition.tables.items n)) c.table_count-tables.ensures)
    (λ e low apart. section_kept space.shape d e old _ condition.known low apart c.requires.whole c.narrow.auto.words)) c.narrow.ensures

pub returns-clause-within : goal.returns-clause-within
unfolding section
returns-clause-within c =
    let space = c.args.self.now in
    let condition = c.args.condition.now in
    let d = condition.dimension in
    let bits = c.index-rows-dimension.result in
    let old = c.args.words.now in
    on_ok_weaker _ (λ each. within_by space.kind space.tables.items space.lists.items space.axes.items space.six c.requires.cut space.shape bits condition c.args.own
    c.table_count-tables.result old _
    (λ n. ap (λ s. has s n) (section_written space.shape d old _ condition.known c.requires.whole c.narrow.auto.words) ∙ each n)
    (λ e low apart. section_kept space.shape d e old _ condition.known low apart c.requires.whole c.narrow.auto.words)) c.narrow.ensures
