-- The weight of a rule, which bounds its program: 64, and for each listed element what its test may
-- take. The numbers are this project's own.
use Rattle.std.specs.Prelude.{ℕ, ◌+◌, ◌*◌, ◌^◌, ◌<◌, Option, Some, None, List, length}
use Rattle.std.specs.List.{sum_by}
use Rattle.npf_types.specs.declared.address.Addr.{Addr}
use Rattle.npf_types.specs.declared.address.Addr.TheVariants.{V4, V6}
use Rattle.npf_model.specs.declared.ends.AddrItem.{AddrItem}
use Rattle.npf_model.specs.declared.ends.AddrItem.TheVariants.{Net, InTable}
use Rattle.npf_model.specs.declared.ends.Ends.{Ends}
use Rattle.npf_model.specs.declared.rule.Rule.{Rule}
use Rattle.npf_model.specs.Count.{listed}

-- a block's weight is that of its family
abbrev pub block_weight : Addr → ℕ
block_weight (V4 _) = 6
block_weight (V6 _) = 16

abbrev pub item_weight : AddrItem → ℕ
item_weight (Net prefix) = block_weight prefix.addr
item_weight (InTable _) = 8

abbrev pub items_weight : Option (List AddrItem) → ℕ
items_weight None = 0
items_weight (Some items) = sum_by item_weight items

abbrev pub ends_weight : Ends → ℕ
ends_weight ends = items_weight ends.addrs + 6 * listed ends.ports

abbrev pub weight_of : Rule → ℕ
weight_of rule = 64 + 2 * length rule.protos + ends_weight rule.from + ends_weight rule.to

-- each list has so few elements that the weight is below 2^64
pub record HasShortEnds (ends : Ends) : Type 0 where
  pub addrs : listed ends.addrs < 2 ^ 56
  pub ports : listed ends.ports < 2 ^ 56

pub record HasShortLists (rule : Rule) : Type 0 where
  pub protos : length rule.protos < 2 ^ 56
  pub from : HasShortEnds rule.from
  pub to : HasShortEnds rule.to
