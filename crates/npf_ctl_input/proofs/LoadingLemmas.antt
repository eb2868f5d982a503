-- A configuration is loaded alike between all moments that meet as much.
use Rattle.std.proofs.Common.{ℕ, Option, Result, Err, List, subst}
use Rattle.npf_types.{specs.declared.{limits.TheConstants.MAX_TEXT_BYTES, span.Span.Span}, proofs.StageLemmas.andthen_lasts}
use Rattle.npf_faults.specs.declared.fault.ConfFault.{ConfFault}
use Rattle.npf_model.specs.{declared.{iface.Iface.Iface, table.TableDecl.TableDecl}, Configuration.Configuration, Describes.Tables}
use Rattle.npf_outside.specs.{declared.files.FileFault.FileFault, Files.{FilesMoment, Tree}}
use Rattle.npf_outside.specs.declared.files.FileFault.TheVariants as IsFile
use Rattle.npf_config.specs.{declared.fault.LoadFault.LoadFault, FirstConfiguration.IsFirstConfiguration, Reading.{ComesTo, IsUnread}}
use Rattle.npf_config.specs.declared.fault.LoadFault.TheVariants as Load
use Rattle.npf_config.specs.Refusal.{RefusesConfiguration, RefusesLoad, RefusesTableFile, RefusesTables, bad_line, by_rules, by_tables, by_text, too_many}
use Rattle.npf_config.specs.Tables.{AreFirstEntries, AreFirstTables, IsTableText}
use Rattle.npf_ctl_messages.specs.declared.fault.CommandFault.{CommandFault}
use Rattle.npf_ctl_input.specs.{File.ReadsFile, Interfaces.ReadsInterfaces}
use Rattle.npf_ctl_input.specs.{Loads.{LoadsAlone, LoadsFile, LoadsText, loaded, longer, refused, told_load, unread}, Unless.IfTold}
use Rattle.npf_ctl_input.proofs.{FileLemmas.{file_lasts, interfaces_last}, ReadingLemmas.MeetsAll}

module _ (old new before after : FilesMoment) (meets : MeetsAll old new before after) where
  comes_last : (decls : List TableDecl) (decl : TableDecl) (tables : Tables) → ComesTo old decls decl tables → ComesTo before decls decl tables
  comes_last decls decl tables comes = record {
    front = comes.front;
    behind = comes.behind;
    are = comes.are;
    read = subst (λ (contents : Option Tree). AreFirstTables contents comes.front tables) meets.contents comes.read;
  }

  tables_last : (decls : List TableDecl) (fault : ConfFault) → RefusesTables old decls fault → RefusesTables before decls fault
  tables_last decls _ (bad_line decl tables comes is) =
      let told = subst (λ (contents : Option Tree). IsTableText contents decl.file is.text) meets.contents is.told in
      bad_line decl tables (comes_last decls decl tables comes) (record { text = is.text; told = told; number = is.number; bad = is.bad; tells = is.tells })
  tables_last decls _ (too_many decl tables entries comes are many) =
      too_many decl tables entries (comes_last decls decl tables comes) (subst (λ (contents : Option Tree). AreFirstEntries contents decl entries) meets.contents are) many

  unread_lasts : (name : List ℕ) (fault : FileFault) → IsUnread name old new fault → IsUnread name before after fault
  unread_lasts name IsFile.Failed is = (meets.unread is.0, meets.failed name is.1 is.0)
  unread_lasts name IsFile.Long is = meets.longer name MAX_TEXT_BYTES is
  unread_lasts name IsFile.NoMemory is = is

  module _ (ifaces : List Iface) where
    refusal_lasts : (text : List ℕ) (fault : ConfFault) → RefusesConfiguration ifaces text old new fault → RefusesConfiguration ifaces text before after fault
    refusal_lasts text _ (by_text fault is) = by_text fault is
    refusal_lasts text _ (by_tables tree model fault meant is) = by_tables tree model fault meant (tables_last model.tables fault is)
    refusal_lasts text _ (by_rules tree model tables fault meant are is) =
        by_rules tree model tables fault meant (subst (λ (contents : Option Tree). AreFirstTables contents model.tables tables) meets.contents are) is

    table_file_lasts : (text : List ℕ) (span : Span) (name : List ℕ) (fault : FileFault) → RefusesTableFile ifaces text old new span name fault →
        RefusesTableFile ifaces text before after span name fault
    table_file_lasts text span name fault is = record {
      tree = is.tree;
      model = is.model;
      means = is.means;
      refused = record {
        decl = is.refused.decl;
        tables = is.refused.tables;
        comes = comes_last is.model.tables is.refused.decl is.refused.tables is.refused.comes;
        unread = record { named = is.refused.unread.named; place = is.refused.unread.place; unread = unread_lasts name fault is.refused.unread.unread };
      };
    }

    pub text_lasts : (file text : List ℕ) (result : Result Configuration CommandFault) → LoadsText old new ifaces file text result → LoadsText before after ifaces file text result
    text_lasts file text result (loaded {config = config} first within) =
        loaded (subst (λ (contents : Option Tree). IsFirstConfiguration ifaces contents text config) meets.contents first) within
    text_lasts file text result (refused {fault = fault} is) = refused (refusal_lasts text fault is)
    text_lasts file text result (unread {span = span} {name = name} is) = unread (table_file_lasts text span name IsFile.Failed is)
    text_lasts file text result (longer {span = span} {name = name} is) = longer (table_file_lasts text span name IsFile.Long is)

    pub load_lasts : (file : List ℕ) (result : Result Configuration CommandFault) → LoadsFile old new ifaces file result → LoadsFile before after ifaces file result
    load_lasts file result is =
        andthen_lasts (ReadsFile old new file MAX_TEXT_BYTES) (ReadsFile before after file MAX_TEXT_BYTES) (LoadsText old new ifaces file) (LoadsText before after ifaces file)
        (file_lasts old new before after meets file MAX_TEXT_BYTES) (text_lasts file) result is

  pub alone_lasts : (ifaces : Option (List ℕ)) (conf : List ℕ) (result : Result Configuration CommandFault) → LoadsAlone old new ifaces conf result → LoadsAlone before after ifaces conf result
  alone_lasts ifaces conf result is =
      andthen_lasts (ReadsInterfaces old new ifaces) (ReadsInterfaces before after ifaces) (λ given. LoadsFile old new given conf) (λ given. LoadsFile before after given conf)
      (interfaces_last old new before after meets ifaces) (λ given. load_lasts given conf) result is

-- what refuses to load a text, as it is told
pub refusal_told : (old new : FilesMoment) (ifaces : List Iface) (file text : List ℕ) (fault : LoadFault) → RefusesLoad ifaces text old new fault →
    IfTold (λ told. LoadsText old new ifaces file text (Err told)) (told_load file fault)
refusal_told old new ifaces file text (Load.Conf fault) is = refused is.0
refusal_told old new ifaces file text (Load.File span name IsFile.Failed) is = unread is
refusal_told old new ifaces file text (Load.File span name IsFile.Long) is = longer is
refusal_told old new ifaces file text (Load.File span name IsFile.NoMemory) is = tt
refusal_told old new ifaces file text Load.NoMemory is = tt
