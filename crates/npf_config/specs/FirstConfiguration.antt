-- The first of a run's configurations: that of the text and of its tables' files. Each change of the run adds one behind it, by
-- npf_config_changes/specs; all of them are the list of npf_ctl_prepare/specs/Making.antt.
-- READ 8 of docs/READING.md
use Rattle.std.specs.Prelude.{◌≡◌, ℕ, Option, List}
use Rattle.npf_types.specs.declared.span.Span.{Span}
use Rattle.npf_syntax.specs.declared.stmt.Tree.{Tree}
use Rattle.npf_model.specs.declared.iface.Iface.{Iface}
use Rattle.npf_model.specs.Configuration.{Configuration}
use Rattle.npf_outside.specs.Files.{Tree as FileTree}
use Rattle.npf_config.specs.Tables.{AreFirstTables}
use Rattle.npf_config.specs.Text.{Means}

-- the model is what the text means, and each table has the entries of its file
pub record IsFirstConfiguration (ifaces : List Iface) (contents : Option FileTree) (text : List ℕ) (config : Configuration) : Type 0 where
  pub tree : Tree
  pub means : Means ifaces text tree config.model
  pub tables : AreFirstTables contents config.model.tables config.tables

-- and the text ends at this place
pub record IsFirstConfigurationTo (ifaces : List Iface) (contents : Option FileTree) (text : List ℕ) (config : Configuration) (end : Span) : Type 0 where
  pub first : IsFirstConfiguration ifaces contents text config
  pub ends : first.tree.end ≡ end
