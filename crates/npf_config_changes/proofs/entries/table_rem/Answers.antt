use Rattle.std.{proofs.{Common.{◌≡◌, ◌<◌, ◌+◌, Some, Ok, List, length, sym, ap, subst, ◌∙◌, arith}, lemmas.Result.err_from_is_err_and}, specs.Arc.arc_value}
use Rattle.std.specs.{declared.sync.Arc.Arc, Global.Global}
use Rattle.npf_model.specs.{declared.table.TableDecl.TableDecl, Verdict.first_where}
use Rattle.npf_types.specs.Stages.{stops}
use Rattle.npf_table.specs.{declared.table.Table.Table, Table.{MayChange, RefusesRemoval, kind_of, prefixes}}
use Rattle.npf_config_changes.specs.{Entries.{LosesEntry, lost, unknown}, Rulesets.are_one_name}
use Rattle.npf_config_changes.proofs.EntryLemmas.{next_count, next_is, next_loaded, place_within, removal_refused, removes, there_at}
use Rattle.npf_config_changes.proofs.entries.table_rem.Goals as goal

pub bounds-tables-at : goal.bounds-tables-at
bounds-tables-at c =
    let config = c.args.config.now in
    let decls : c.as_slice.result.now ≡ config.model.tables = c.as_slice.ensures ∙ ap (λ m. m.tables) c.model.ensures in
    subst (λ (all : List (Arc Table Global)). c.in-Some.at < length all) (sym c.tables.ensures)
    (place_within config c.in-Some.at (subst (λ (all : List TableDecl). c.in-Some.at < length all) decls c.in-Some.ensures.bound))

pub with_table-requires : goal.with_table-requires
with_table-requires c =
    let config = c.args.config.now in
    let decls : c.as_slice.result.now ≡ config.model.tables = c.as_slice.ensures ∙ ap (λ m. m.tables) c.model.ensures in
    place_within config c.in-Some.at (subst (λ (all : List TableDecl). c.in-Some.at < length all) decls c.in-Some.ensures.bound)

pub returns-in_default-clause-err : goal.returns-in_default-clause-err
returns-in_default-clause-err c = λ _.
    let decls : c.as_slice.result.now ≡ c.args.config.now.model.tables = c.as_slice.ensures ∙ ap (λ m. m.tables) c.model.ensures in
    stops (unknown (ap (first_where (λ (other : TableDecl). are_one_name other.name c.args.name) 0) (sym decls) ∙ sym c.table_place.ensures.place ∙ c.in_default.is))

pub returns-in_err-remove-clause-err : goal.returns-in_err-remove-clause-err
returns-in_err-remove-clause-err c =
    let config = c.args.config.now in
    let at = c.in-Some.at in
    let was = c.index-tables-at.result in
    let decls : c.as_slice.result.now ≡ config.model.tables = c.as_slice.ensures ∙ ap (λ m. m.tables) c.model.ensures in
    let first : first_where (λ (other : TableDecl). are_one_name other.name c.args.name) 0 config.model.tables ≡ Some at =
    ap (first_where (λ (other : TableDecl). are_one_name other.name c.args.name) 0) (sym decls) ∙ sym c.table_place.ensures.place ∙ c.in-Some.is in
    let there = there_at config at (subst (λ (all : List TableDecl). at < length all) decls c.in-Some.ensures.bound) c.tables.result.now c.tables.ensures was c.index-tables-at.is in
    let same : c.in_ok-table.table ≡ arc_value was = c.in_ok-table.ensures ∙ c.deref.ensures in
    let fault = c.in_err-remove.field-0.0 in
    let p = err_from_is_err_and c.from_residual-in_err-remove.result c.from_residual-in_err-remove.ensures.1 in
    rw (p.1, p.2) (removal_refused config c.args.name at was there first c.args.prefix fault (subst (λ (t : Table). RefusesRemoval t c.args.prefix fault) same c.in_err-remove.ensures.refused))

pub returns-clause-ok : goal.returns-clause-ok
returns-clause-ok c =
    let config = c.args.config.now in
    let at = c.in-Some.at in
    let was = c.index-tables-at.result in
    let new = c.remove.new.self in
    let next = c.in_ok-with_table.field-0 in
    let decls : c.as_slice.result.now ≡ config.model.tables = c.as_slice.ensures ∙ ap (λ m. m.tables) c.model.ensures in
    let first : first_where (λ (other : TableDecl). are_one_name other.name c.args.name) 0 config.model.tables ≡ Some at =
    ap (first_where (λ (other : TableDecl). are_one_name other.name c.args.name) 0) (sym decls) ∙ sym c.table_place.ensures.place ∙ c.in-Some.is in
    let there = there_at config at (subst (λ (all : List TableDecl). at < length all) decls c.in-Some.ensures.bound) c.tables.result.now c.tables.ensures was c.index-tables-at.is in
    let same : c.in_ok-table.table ≡ arc_value was = c.in_ok-table.ensures ∙ c.deref.ensures in
    let gains = subst (λ (t : Table). LosesEntry (prefixes t) c.args.prefix (Ok (prefixes new))) same
    (lost c.in_ok-remove.ensures.was_there c.in_ok-remove.ensures.loses c.each_once.ensures c.in_ok-remove.ensures.len) in
    removes config c.args.name at was there first c.args.prefix new (subst (λ (t : Table). MayChange (kind_of t) c.args.prefix) same c.in_ok-remove.ensures.may) gains next
    (next_is config next at was new there c.in_ok-with_table.ensures.model c.in_ok-with_table.ensures.tables)

pub returns-clause-loaded : goal.returns-clause-loaded
returns-clause-loaded c = λ loaded.
    let config = c.args.config.now in
    let at = c.in-Some.at in
    let was = c.index-tables-at.result in
    let new = c.remove.new.self in
    let next = c.in_ok-with_table.field-0 in
    let decls : c.as_slice.result.now ≡ config.model.tables = c.as_slice.ensures ∙ ap (λ m. m.tables) c.model.ensures in
    let there = there_at config at (subst (λ (all : List TableDecl). at < length all) decls c.in-Some.ensures.bound) c.tables.result.now c.tables.ensures was c.index-tables-at.is in
    let same : c.in_ok-table.table ≡ arc_value was = c.in_ok-table.ensures ∙ c.deref.ensures in
    let len : length (prefixes new) + 1 ≡ length (prefixes (arc_value was)) = subst (λ (t : Table). length (prefixes new) + 1 ≡ length (prefixes t)) same c.in_ok-remove.ensures.len in
    let sum = next_count config next at was new there c.in_ok-with_table.ensures.model c.in_ok-with_table.ensures.tables in
    let few = loaded.few in
    next_loaded config next at was new there c.in_ok-with_table.ensures.model c.in_ok-with_table.ensures.tables loaded
    (c.in_ok-remove.ensures.kind ∙ ap kind_of same) (omega arith)
