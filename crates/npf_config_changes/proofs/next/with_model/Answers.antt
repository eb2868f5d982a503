use Rattle.std.{proofs.{Common.{◌≡◌, ◌≤◌, length, map, sym, ap, subst, ◌∙◌}, lemmas.{List.length-map, Result.IfOk-weaker}}, specs.Arc.arc_value}
use Rattle.npf_config_changes.proofs.NextLemmas.{assembled, next_is, next_loaded}
use Rattle.npf_config_changes.proofs.next.with_model.Goals as goal

pub assemble-requires-clause-tables : goal.assemble-requires-clause-tables
assemble-requires-clause-tables c =
    let config = c.args.config.now in
    let tables = c.in_ok-tables.tables.items in
    let shared : map arc_value tables ≡ map arc_value config.tables.items = c.in_ok-tables.ensures ∙ ap (map arc_value) c.tables.ensures in
    let declared = ap length (sym c.requires.tables) in
    record {
      declared = sym (length-map tables arc_value) ∙ ap length shared ∙ length-map config.tables.items arc_value ∙ config.declared.declared ∙ declared;
      few = subst (λ decls. length decls ≤ 64) (sym c.requires.tables) config.declared.few;
    }

pub returns-clause-is : goal.returns-clause-is
returns-clause-is c =
    let config = c.args.config.now in
    let is = assembled c.assemble.result c.args.model c.in_ok-tables.tables c.assemble.ensures.model c.assemble.ensures.tables in
    let shared : map arc_value c.in_ok-tables.tables.items ≡ map arc_value config.tables.items = c.in_ok-tables.ensures ∙ ap (map arc_value) c.tables.ensures in
    IfOk-weaker c.assemble.result _ _ (λ next facts.
    next_is config next c.args.model facts.0 (ap (λ tables. map arc_value tables.items) facts.1 ∙ shared)) is

pub returns-clause-loaded : goal.returns-clause-loaded
returns-clause-loaded c = λ loaded.
    let config = c.args.config.now in
    let is = assembled c.assemble.result c.args.model c.in_ok-tables.tables c.assemble.ensures.model c.assemble.ensures.tables in
    let shared : map arc_value c.in_ok-tables.tables.items ≡ map arc_value config.tables.items = c.in_ok-tables.ensures ∙ ap (map arc_value) c.tables.ensures in
    IfOk-weaker c.assemble.result _ _ (λ next facts.
    next_loaded config next c.args.model facts.0 (ap (λ tables. map arc_value tables.items) facts.1 ∙ shared) c.requires.tables loaded) is
