use Rattle.std.proofs.{Common.{◌≡◌, ◌<◌, ◌+◌, Some, Ok, Err, List, length, sym, ap, subst, ◌∙◌, arith}, lemmas.Result.err_from_is_err_and}
use Rattle.std.specs.{Arc.arc_value, Global.Global, declared.sync.Arc.Arc}
use Rattle.npf_model.specs.{declared.table.TableDecl.TableDecl, Verdict.first_where}
use Rattle.npf_faults.specs.declared.fault.Excess.TheVariants.{Entries}
use Rattle.npf_types.specs.Stages.{stops}
use Rattle.npf_table.specs.{declared.table.Table.Table, Table.{MayChange, RefusesAddition, kind_of, prefixes}}
use Rattle.npf_ruleset.specs.{Configuration.configuration, Tables.entries}
use Rattle.npf_config.specs.Tables.{entry_count, table_kinds}
use Rattle.npf_config_changes.specs.{declared.fault.ChangeFault.ChangeFault, Entries.{AddsEntry, GainsEntry, gained, unknown, with_entries}}
use Rattle.npf_config_changes.specs.{Rulesets.are_one_name, Told.{told_count, too_many}}
use Rattle.npf_config_changes.proofs.EntryLemmas.{addition_refused, adds, count_there, had_entries, next_count, next_is, next_loaded, place_within, passes, there_at}
use Rattle.npf_config_changes.proofs.entries.table_add.Goals as goal

pub bounds-tables-at : goal.bounds-tables-at
bounds-tables-at c =
    let config = c.args.config.now in
    let decls : c.as_slice.result.now ≡ config.model.tables = c.as_slice.ensures ∙ ap (λ m. m.tables) c.model.ensures in
    subst (λ (all : List (Arc Table Global)). c.in-Some.at < length all) (sym c.tables.ensures)
    (place_within config c.in-Some.at (subst (λ (all : List TableDecl). c.in-Some.at < length all) decls c.in-Some.ensures.bound))

pub with_table-requires : goal.with_table-requires
with_table-requires c =
    let config = c.args.config.now in
    let decls : c.as_slice.result.now ≡ config.model.tables = c.as_slice.ensures ∙ ap (λ m. m.tables) c.model.ensures in
    place_within config c.in-Some.at (subst (λ (all : List TableDecl). c.in-Some.at < length all) decls c.in-Some.ensures.bound)

pub returns-in_default-clause-err : goal.returns-in_default-clause-err
returns-in_default-clause-err c = λ _.
    let decls : c.as_slice.result.now ≡ c.args.config.now.model.tables = c.as_slice.ensures ∙ ap (λ m. m.tables) c.model.ensures in
    stops (unknown (ap (first_where (λ (other : TableDecl). are_one_name other.name c.args.name) 0) (sym decls) ∙ sym c.table_place.ensures.place ∙ c.in_default.is))

pub returns-in_err-add-clause-err : goal.returns-in_err-add-clause-err
returns-in_err-add-clause-err c =
    let config = c.args.config.now in
    let at = c.in-Some.at in
    let was = c.index-tables-at.result in
    let decls : c.as_slice.result.now ≡ config.model.tables = c.as_slice.ensures ∙ ap (λ m. m.tables) c.model.ensures in
    let first : first_where (λ (other : TableDecl). are_one_name other.name c.args.name) 0 config.model.tables ≡ Some at =
    ap (first_where (λ (other : TableDecl). are_one_name other.name c.args.name) 0) (sym decls) ∙ sym c.table_place.ensures.place ∙ c.in-Some.is in
    let there = there_at config at (subst (λ (all : List TableDecl). at < length all) decls c.in-Some.ensures.bound) c.tables.result.now c.tables.ensures was c.index-tables-at.is in
    let same : c.in_ok-table.table ≡ arc_value was = c.in_ok-table.ensures ∙ c.deref.ensures in
    let fault = c.in_err-add.field-0.0 in
    let p = err_from_is_err_and c.from_residual-in_err-add.result c.from_residual-in_err-add.ensures.1 in
    rw (p.1, p.2) (addition_refused config c.args.name at was there first c.args.prefix fault (subst (λ (t : Table). RefusesAddition t c.args.prefix fault) same c.in_err-add.ensures.refused))

pub returns-then-count-clause-err : goal.returns-then-count-clause-err
returns-then-count-clause-err c = λ _.
    let config = c.args.config.now in
    let at = c.in-Some.at in
    let was = c.index-tables-at.result in
    let new = c.add.new.self in
    let decls : c.as_slice.result.now ≡ config.model.tables = c.as_slice.ensures ∙ ap (λ m. m.tables) c.model.ensures in
    let first : first_where (λ (other : TableDecl). are_one_name other.name c.args.name) 0 config.model.tables ≡ Some at =
    ap (first_where (λ (other : TableDecl). are_one_name other.name c.args.name) 0) (sym decls) ∙ sym c.table_place.ensures.place ∙ c.in-Some.is in
    let there = there_at config at (subst (λ (all : List TableDecl). at < length all) decls c.in-Some.ensures.bound) c.tables.result.now c.tables.ensures was c.index-tables-at.is in
    let same : c.in_ok-table.table ≡ arc_value was = c.in_ok-table.ensures ∙ c.deref.ensures in
    let gains = subst (λ (t : Table). GainsEntry (prefixes t) c.args.prefix (Ok (prefixes new))) same
    (gained c.in_ok-add.ensures.was_absent c.in_ok-add.ensures.adds c.each_once.ensures c.in_ok-add.ensures.len) in
    let len : length (prefixes new) ≡ length (prefixes (arc_value was)) + 1 = subst (λ (t : Table). length (prefixes new) ≡ length (prefixes t) + 1) same c.in_ok-add.ensures.len in
    let sum = count_there (entries config.tables.items) at (prefixes (arc_value was)) (prefixes new) (had_entries config at was there) in
    let old : c.entry_count.result ≡ told_count (entry_count (entries config.tables.items)) =
    c.entry_count.ensures ∙ ap (λ (all : List (Arc Table Global)). told_count (entry_count (entries all))) c.tables-2.ensures in
    let one = c.saturating_add-count.ensures in
    let counted : told_count (entry_count (with_entries at (prefixes new) (configuration config)).tables) ≡ c.saturating_add-count.result = omega arith in
    subst (λ (fault : ChangeFault). AddsEntry (table_kinds config.tables.items) (configuration config) c.args.name c.args.prefix (Err fault))
    (sym (c.at.ensures ∙ ap (λ span. too_many span Entries c.saturating_add-count.result) c.beginning.ensures))
    (passes config c.args.name at was there first c.args.prefix new
    (subst (λ (t : Table). MayChange (kind_of t) c.args.prefix) same c.in_ok-add.ensures.may) gains c.saturating_add-count.result counted c.if-count.true)

pub returns-clause-ok : goal.returns-clause-ok
returns-clause-ok c =
    let config = c.args.config.now in
    let at = c.in-Some.at in
    let was = c.index-tables-at.result in
    let new = c.add.new.self in
    let next = c.in_ok-with_table.field-0 in
    let decls : c.as_slice.result.now ≡ config.model.tables = c.as_slice.ensures ∙ ap (λ m. m.tables) c.model.ensures in
    let first : first_where (λ (other : TableDecl). are_one_name other.name c.args.name) 0 config.model.tables ≡ Some at =
    ap (first_where (λ (other : TableDecl). are_one_name other.name c.args.name) 0) (sym decls) ∙ sym c.table_place.ensures.place ∙ c.in-Some.is in
    let there = there_at config at (subst (λ (all : List TableDecl). at < length all) decls c.in-Some.ensures.bound) c.tables.result.now c.tables.ensures was c.index-tables-at.is in
    let same : c.in_ok-table.table ≡ arc_value was = c.in_ok-table.ensures ∙ c.deref.ensures in
    let gains = subst (λ (t : Table). GainsEntry (prefixes t) c.args.prefix (Ok (prefixes new))) same
    (gained c.in_ok-add.ensures.was_absent c.in_ok-add.ensures.adds c.each_once.ensures c.in_ok-add.ensures.len) in
    let len : length (prefixes new) ≡ length (prefixes (arc_value was)) + 1 = subst (λ (t : Table). length (prefixes new) ≡ length (prefixes t) + 1) same c.in_ok-add.ensures.len in
    let sum = next_count config next at was new there c.in_ok-with_table.ensures.model c.in_ok-with_table.ensures.tables in
    let old : c.entry_count.result ≡ told_count (entry_count (entries config.tables.items)) =
    c.entry_count.ensures ∙ ap (λ (all : List (Arc Table Global)). told_count (entry_count (entries all))) c.tables-2.ensures in
    let one = c.saturating_add-count.ensures in
    let few = c.if-count.false in
    adds config c.args.name at was there first c.args.prefix new (subst (λ (t : Table). MayChange (kind_of t) c.args.prefix) same c.in_ok-add.ensures.may) gains next
    (next_is config next at was new there c.in_ok-with_table.ensures.model c.in_ok-with_table.ensures.tables) (omega arith)

pub returns-clause-loaded : goal.returns-clause-loaded
returns-clause-loaded c = λ loaded.
    let config = c.args.config.now in
    let at = c.in-Some.at in
    let was = c.index-tables-at.result in
    let new = c.add.new.self in
    let next = c.in_ok-with_table.field-0 in
    let decls : c.as_slice.result.now ≡ config.model.tables = c.as_slice.ensures ∙ ap (λ m. m.tables) c.model.ensures in
    let there = there_at config at (subst (λ (all : List TableDecl). at < length all) decls c.in-Some.ensures.bound) c.tables.result.now c.tables.ensures was c.index-tables-at.is in
    let same : c.in_ok-table.table ≡ arc_value was = c.in_ok-table.ensures ∙ c.deref.ensures in
    let len : length (prefixes new) ≡ length (prefixes (arc_value was)) + 1 = subst (λ (t : Table). length (prefixes new) ≡ length (prefixes t) + 1) same c.in_ok-add.ensures.len in
    let sum = next_count config next at was new there c.in_ok-with_table.ensures.model c.in_ok-with_table.ensures.tables in
    let old : c.entry_count.result ≡ told_count (entry_count (entries config.tables.items)) =
    c.entry_count.ensures ∙ ap (λ (all : List (Arc Table Global)). told_count (entry_count (entries all))) c.tables-2.ensures in
    let one = c.saturating_add-count.ensures in
    let few = c.if-count.false in
    next_loaded config next at was new there c.in_ok-with_table.ensures.model c.in_ok-with_table.ensures.tables loaded
    (c.in_ok-add.ensures.kind ∙ ap kind_of same) (omega arith)
