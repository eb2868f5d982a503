-- What one table adds while the tables are read, and where reading them stops.
use Rattle.std.specs.Prelude.{ℕ, Option, List}
use Rattle.npf_types.specs.declared.prefix.Prefix.{Prefix}
use Rattle.npf_model.specs.declared.table.TableDecl.{TableDecl}
use Rattle.npf_table.specs.declared.table.Table.{Table}
use Rattle.npf_table.specs.Table.{IsTableOf}
use Rattle.npf_outside.specs.Files.{FilesMoment, SameReadFaults, Tree as FileTree}
use Rattle.npf_config.specs.declared.fault.LoadFault.{LoadFault}
use Rattle.npf_config.specs.declared.fault.LoadFault.TheVariants.{Conf, File, NoMemory}
use Rattle.npf_config.specs.Reading.{HasUnreadFile, RefusesFileAt}
use Rattle.npf_config.specs.Refusal.{HasBadLine, IsPastLimit, RefusesTables}
use Rattle.npf_config.specs.Tables.{IsTableText}

-- the table is that of its declaration's file
pub record IsReadTable (contents : Option FileTree) (decl : TableDecl) (table : Table) : Type 0 where
  pub text : List ℕ
  pub told : IsTableText contents decl.file text
  pub read : IsTableOf decl.kind text table

module _ (before now : FilesMoment) (decl : TableDecl) where
  abbrev pub StopsReading : LoadFault → Type 0
  StopsReading (Conf fault) = ⊥
  StopsReading (File span name fault) = HasUnreadFile before now decl span name fault
  StopsReading NoMemory = Unit {0}

  abbrev pub StopsAtTable : LoadFault → Type 0
  StopsAtTable (Conf fault) = HasBadLine before decl fault × SameReadFaults before now
  StopsAtTable (File span name fault) = HasUnreadFile before now decl span name fault
  StopsAtTable NoMemory = Unit {0}

-- the limit of all entries is passed, and nothing else is told
abbrev pub StopsAtLimit : ℕ → List Prefix → TableDecl → LoadFault → Type 0
StopsAtLimit before entries decl (Conf fault) = IsPastLimit before entries decl fault
StopsAtLimit before entries decl _ = ⊥

-- why reading the tables stops
abbrev pub StopsAtTables : FilesMoment → FilesMoment → List TableDecl → LoadFault → Type 0
StopsAtTables before now decls (Conf fault) = RefusesTables before decls fault × SameReadFaults before now
StopsAtTables before now decls (File span name fault) = RefusesFileAt before now decls span name fault
StopsAtTables before now decls NoMemory = Unit {0}
