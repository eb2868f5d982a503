-- When two configurations are one but for the order in which the entries of a table stand, which means nothing.
use Rattle.std.specs.Prelude.{◌≡◌, ◌↔◌, List, Contains, length}
use Rattle.std.specs.List.{AllZip}
use Rattle.npf_types.specs.declared.prefix.Prefix.{Prefix}
use Rattle.npf_model.specs.Configuration.{Configuration}

-- the lists have the same entries, and as many
pub record AreSameEntries (one other : List Prefix) : Type 0 where
  pub same : (prefix : Prefix) → Contains one prefix ↔ Contains other prefix
  pub count : length one ≡ length other

-- the models are one, and each table has the same entries
pub record AreOneConfiguration (one other : Configuration) : Type 0 where
  pub model : one.model ≡ other.model
  pub tables : AllZip AreSameEntries one.tables other.tables
