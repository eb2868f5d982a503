-- A loaded configuration whose interfaces' numbers are set anew.
use Rattle.std.proofs.{Common.{◌≡◌, ◌≤◌, ℕ, List, All, sym, subst}, lemmas.List.Elements.{All-map, All-weaker}}
use Rattle.npf_types.specs.declared.limits.TheConstants.{MAX_TABLE_ENTRIES}
use Rattle.npf_model.specs.declared.{group.{Group.Group, Item.{Item, TheVariants.{One, Dynamic}}}, iface.Iface.Iface, model.Model.Model}
use Rattle.npf_model.specs.Numbering.{numbered, numbered_group, numbered_item}
use Rattle.npf_ruleset.specs.{declared.config.Config.Config, Tables.entries}
use Rattle.npf_config.specs.{Tables.{HaveKinds, entry_count}, Loaded.{HasNextIds, IsLoaded, IsNextWithin}}
use Rattle.npf_ctl_prepare.specs.Told.{IsChangeable}

module _ (ifaces : List Iface) where
  next_within : (most : ℕ) (item : Item) → IsNextWithin most item → IsNextWithin most (numbered_item ifaces item)
  next_within most (One rule) within = within
  next_within most (Dynamic name dir on next_id rules) within = within

  ids_stay : (most : ℕ) (model : Model) → HasNextIds most model → HasNextIds most (numbered ifaces model)
  ids_stay most model ids =
      let Within : Group → Type 0 = λ group. All (IsNextWithin most) group.items in
      let numbered_within : Group → Type 0 = λ group. Within (numbered_group ifaces group) in
      let each : (group : Group) → Within group → numbered_within group =
      λ group within. All-map (IsNextWithin most) (numbered_item ifaces) group.items
      (All-weaker (IsNextWithin most) (λ item. IsNextWithin most (numbered_item ifaces item)) (next_within most) group.items within) in
      All-map Within (numbered_group ifaces) model.groups (All-weaker Within numbered_within each model.groups ids)

  module _ (config next : Config) (model : next.model ≡ numbered ifaces config.model) (tables : next.tables ≡ config.tables) where
    loaded_stays : IsLoaded config → IsLoaded next
    loaded_stays is = record {
      kinds = subst (λ (m : Model). HaveKinds m.tables next.tables.items) (sym model) (subst (λ ts. HaveKinds config.model.tables ts.items) (sym tables) is.kinds);
      few = subst (λ ts. entry_count (entries ts.items) ≤ MAX_TABLE_ENTRIES) (sym tables) is.few;
    }

    pub number_changeable : (most : ℕ) → IsChangeable most config → IsChangeable most next
    number_changeable most is = record {
      loaded = loaded_stays is.loaded;
      ids = subst (HasNextIds most) (sym model) (ids_stay most config.model is.ids);
    }
