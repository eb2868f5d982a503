use Rattle.std.{proofs.Common.{◌≡◌, ◌≤◌, Err, List, All, length, rules, refl, sym, ap, subst, ◌∙◌}, specs.{Global.{Global, Vec}, declared.sync.Arc.Arc}}
use Rattle.npf_types.specs.declared.limits.TheConstants.{MAX_PROCEDURES}
use Rattle.npf_model.specs.declared.{model.Model.Model, table.TableDecl.TableDecl}
use Rattle.npf_ruleset.specs.{declared.config.Config.Config, Tables.entries}
use Rattle.npf_table.specs.declared.table.Table.{Table}
use Rattle.npf_config.specs.{Tables.{AreFirstTables, HasTextName}, Text.Means, Loaded.HasNextIds}
use Rattle.npf_config.proofs.{BuildableLemmas.{buildable, places, procedures_few, text_names}, LoadLemmas.{rules_stop, tables_stop, text_stops}}
use Rattle.npf_config.proofs.LoadedLemmas.{first_ids, has_tables, is_loaded}
use Rattle.npf_config.proofs.loads.load_placed.Goals as goal

pub returns-in_err-tree-clause-refuses : goal.returns-in_err-tree-clause-refuses
returns-in_err-tree-clause-refuses g c =
    let moment = g.F.Files.moment c.args.files.now in
    let fault = c.in_err-tree.field-0.0 in
    let same : c.from_residual.result ≡ Err fault = search rules in
    rw same (text_stops c.args.ifaces.now.list c.args.text.now moment moment (record { all = refl; each = λ name. refl }) fault c.in_err-tree.ensures.refuses)

pub read_tables-requires : goal.read_tables-requires
read_tables-requires g c =
    subst (λ (decls : List TableDecl). All HasTextName decls) (sym c.as_slice.ensures)
    (text_names c.args.ifaces.now.list c.args.text.now c.in_ok-tree.tree c.in_ok-tree.model c.in_ok-tree.ensures.ok)

pub returns-in_err-tables-clause-refuses : goal.returns-in_err-tables-clause-refuses
returns-in_err-tables-clause-refuses g c =
    let fault = c.in_err-tables.field-0.0 in
    let same : c.from_residual-in_err-tables.result ≡ Err fault = search rules in
    rw same (tables_stop c.args.ifaces.now.list c.args.text.now (g.F.Files.moment c.args.files.now) (g.F.Files.moment c.read_tables.new.files)
    c.in_ok-tree.tree c.in_ok-tree.model c.in_ok-tree.ensures.ok c.as_slice.result.now c.as_slice.ensures fault c.in_err-tables.ensures.refuses)

pub compile_rules-requires-clause-buildable : goal.compile_rules-requires-clause-buildable
compile_rules-requires-clause-buildable g c = buildable c.args.ifaces.now.list c.args.text.now c.in_ok-tree.tree c.in_ok-tree.model c.in_ok-tree.ensures.ok

pub compile_rules-requires-clause-tables : goal.compile_rules-requires-clause-tables
compile_rules-requires-clause-tables g c =
    has_tables c.args.ifaces.now.list c.args.text.now c.in_ok-tree.tree c.in_ok-tree.model c.in_ok-tree.ensures.ok
    c.as_slice.result.now c.as_slice.ensures c.in_ok-tables.tables.items c.in_ok-tables.ensures.kinds

pub compile_rules-requires-clause-places : goal.compile_rules-requires-clause-places
compile_rules-requires-clause-places g c = places c.args.ifaces.now.list c.args.text.now c.in_ok-tree.tree c.in_ok-tree.model c.in_ok-tree.ensures.ok

pub returns-in_err-config-clause-refuses : goal.returns-in_err-config-clause-refuses
returns-in_err-config-clause-refuses g c =
    let fault = c.in_err-config.field-0.0 in
    let same : c.from_residual-in_err-config.result ≡ Err fault = search rules in
    rw same
    (rules_stop c.args.ifaces.now.list c.args.text.now (g.F.Files.moment c.args.files.now) (g.F.Files.moment c.read_tables.new.files)
    c.in_ok-tree.tree c.in_ok-tree.model c.in_ok-tree.ensures.ok {C = Config} c.as_slice.result.now c.as_slice.ensures (entries c.in_ok-tables.tables.items) c.in_ok-tables.ensures.ok
    c.in_ok-tables.ensures.faultless (Err fault) c.in_err-config.ensures.refuses)

pub returns-clause-first : goal.returns-clause-first
returns-clause-first g c =
    let contents = (g.F.Files.moment c.args.files.now).contents in
    let config = c.in_ok-config.config in
    let model = sym c.in_ok-config.ensures.model in
    let decls = c.as_slice.ensures ∙ ap (λ (m : Model). m.tables) model in
    let tables = ap (λ (v : Vec (Arc Table Global)). entries v.items) (sym c.in_ok-config.ensures.tables) in
    record {
      first = record {
        tree = c.in_ok-tree.tree;
        means = subst (Means c.args.ifaces.now.list c.args.text.now c.in_ok-tree.tree) model c.in_ok-tree.ensures.ok;
        tables = subst (AreFirstTables contents config.model.tables) tables
            (subst (λ (all : List TableDecl). AreFirstTables contents all (entries c.in_ok-tables.tables.items)) decls c.in_ok-tables.ensures.ok);
      };
      ends = refl;
    }

pub returns-clause-loaded : goal.returns-clause-loaded
returns-clause-loaded g c =
    is_loaded c.args.ifaces.now.list c.args.text.now ((g.F.Files.moment c.args.files.now).contents) c.in_ok-tree.tree c.in_ok-tree.model c.in_ok-tree.ensures.ok
    c.as_slice.result.now c.as_slice.ensures c.in_ok-tables.tables c.in_ok-tables.ensures.ok c.in_ok-tables.ensures.kinds
    c.in_ok-config.config c.in_ok-config.ensures.model c.in_ok-config.ensures.tables

pub returns-clause-ids : goal.returns-clause-ids
returns-clause-ids g c =
    subst (HasNextIds 1) (sym c.in_ok-config.ensures.model) (first_ids c.args.ifaces.now.list c.args.text.now c.in_ok-tree.tree c.in_ok-tree.model c.in_ok-tree.ensures.ok)

pub returns-clause-procedures : goal.returns-clause-procedures
returns-clause-procedures g c =
    subst (λ (m : Model). length m.procedures ≤ MAX_PROCEDURES) (sym c.in_ok-config.ensures.model)
    (procedures_few c.args.ifaces.now.list c.args.text.now c.in_ok-tree.tree c.in_ok-tree.model c.in_ok-tree.ensures.ok)
