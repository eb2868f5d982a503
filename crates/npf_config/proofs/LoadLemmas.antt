-- Each part of loading that stops refuses the configuration.
use Rattle.std.{proofs.Common.{◌≡◌, ℕ, Result, Ok, Err, List, refl, subst, sym}, specs.Result.IfErr}
use Rattle.npf_syntax.specs.declared.stmt.Tree.{Tree}
use Rattle.npf_model.specs.{declared.{iface.Iface.Iface, model.Model.Model, table.TableDecl.TableDecl}, Describes.Tables}
use Rattle.npf_outside.specs.Files.{FilesMoment, SameReadFaults}
use Rattle.npf_config.specs.{declared.fault.LoadFault.LoadFault, Refusal.{RefusesLoad, RefusesRules, by_rules, by_tables, by_text}, Stage.IfConf}
use Rattle.npf_config.specs.declared.fault.LoadFault.TheVariants as Load
use Rattle.npf_config.specs.{TableSteps.StopsAtTables, Tables.AreFirstTables, Text.{Means, RefusesText}}

module _ (ifaces : List Iface) (text : List ℕ) (before now : FilesMoment) where
  pub text_stops : SameReadFaults before now → (fault : LoadFault) → IfConf (RefusesText ifaces text) fault → RefusesLoad ifaces text before now fault
  text_stops faultless (Load.Conf fault) is = (by_text fault is, faultless)
  text_stops faultless (Load.File span name fault) is = absurd is
  text_stops faultless Load.NoMemory is = tt

  module _ (tree : Tree) (model : Model) (means : Means ifaces text tree model) where
    tables_stop_at : (fault : LoadFault) → StopsAtTables before now model.tables fault → RefusesLoad ifaces text before now fault
    tables_stop_at (Load.Conf fault) stops = (by_tables tree model fault means stops.0, stops.1)
    tables_stop_at (Load.File span name fault) stops = record { tree = tree; model = model; means = means; refused = stops }
    tables_stop_at Load.NoMemory stops = tt

    pub tables_stop : (decls : List TableDecl) → decls ≡ model.tables → (fault : LoadFault) → StopsAtTables before now decls fault → RefusesLoad ifaces text before now fault
    tables_stop decls are fault stops = tables_stop_at fault (subst (λ (all : List TableDecl). StopsAtTables before now all fault) are stops)

    rules_stop_for : (tables : Tables) → AreFirstTables before.contents model.tables tables → SameReadFaults before now → (fault : LoadFault) → IfConf (RefusesRules tree model) fault
        → RefusesLoad ifaces text before now fault
    rules_stop_for tables read faultless (Load.Conf fault) is = (by_rules tree model tables fault means read is, faultless)
    rules_stop_for tables read faultless (Load.File span name fault) is = absurd is
    rules_stop_for tables read faultless Load.NoMemory is = tt

    pub rules_stop : {C : Type 0} (decls : List TableDecl) → decls ≡ model.tables → (tables : Tables) → AreFirstTables before.contents decls tables → SameReadFaults before now
        → (result : Result C LoadFault) → IfErr result (IfConf (RefusesRules tree model)) → IfErr result (RefusesLoad ifaces text before now)
    rules_stop decls are tables read faultless (Ok config) is = is
    rules_stop decls are tables read faultless (Err fault) is =
        rules_stop_for tables (subst (λ (all : List TableDecl). AreFirstTables before.contents all tables) are read) faultless fault is
