-- What holds of each configuration of a run: of the one that a text means, and of each that a change makes.
use Rattle.std.specs.Prelude.{ℕ, ◌≤◌, ⊤, All}
use Rattle.npf_types.specs.declared.limits.TheConstants.{MAX_TABLE_ENTRIES}
use Rattle.npf_model.specs.declared.group.Item.{Item}
use Rattle.npf_model.specs.declared.group.Item.TheVariants.{One, Dynamic}
use Rattle.npf_model.specs.declared.model.Model.{Model}
use Rattle.npf_ruleset.specs.declared.config.Config.{Config}
use Rattle.npf_ruleset.specs.Tables.{entries}
use Rattle.npf_config.specs.Tables.{HaveKinds, entry_count}

-- beside what each configuration keeps (npf_ruleset): the tables are of the kinds that the model says, and have as few entries as
-- a run takes
pub record IsLoaded (config : Config) : Type 0 where
  pub kinds : HaveKinds config.model.tables config.tables.items
  pub few : entry_count (entries config.tables.items) ≤ MAX_TABLE_ENTRIES

-- the number of the next rule, where the item is a ruleset, is at most this
abbrev pub IsNextWithin : ℕ → Item → Type 0
IsNextWithin most (One rule) = ⊤
IsNextWithin most (Dynamic name dir on next_id rules) = next_id ≤ most

-- and so it is in each ruleset
abbrev pub HasNextIds : ℕ → Model → Type 0
HasNextIds most model = All (λ group. All (IsNextWithin most) group.items) model.groups
