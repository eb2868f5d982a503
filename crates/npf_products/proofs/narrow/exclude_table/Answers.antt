use Rattle.std.proofs.Common.{true, ◌&&◌, ◌∙◌, not, ap, refl, sym}
use Rattle.std.proofs.lemmas.Bool.{le-ltb, lt-ltb}
use Rattle.npf_bits.specs.Bits.{has}
use Rattle.npf_cut.specs.SetBits.{set_words}
use Rattle.npf_products.proofs.AddsLemmas.{and_keep}
use Rattle.npf_products.proofs.narrow.exclude_table.Goals as goal

pub returns-then-table-tables : goal.returns-then-table-tables
returns-then-table-tables c = λ n.
    let class = has (set_words c.args.bits.now c.args.table) n in
    let old = has c.args.words.now n in
    c.difference_with.ensures n ∙ ap (λ words. old && not (has words n)) c.of.ensures.value
    ∙ ap (λ b. old && not (b && class)) (sym (lt-ltb c.args.table c.args.tables c.if-table-tables.true))

pub returns-else-table-tables : goal.returns-else-table-tables
returns-else-table-tables c = λ n.
    let class = has (set_words c.args.bits.now c.args.table) n in
    let old = has c.args.words.now n in
    sym (and_keep old true refl) ∙ ap (λ b. old && not (b && class)) (sym (le-ltb c.args.table c.args.tables c.if-table-tables.false))
