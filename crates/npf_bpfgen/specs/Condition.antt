-- What is asked of a rule's parts.
use Rattle.std.specs.Prelude.{◌<◌, ◌^◌, Bool, true, false, Option, Some, None, List, All, ⊤, if◌then◌else◌}
use Rattle.npf_types.specs.declared.address.Addr.{Addr}
use Rattle.npf_types.specs.declared.decision.Decision.{Decision}
use Rattle.npf_types.specs.declared.decision.Decision.TheVariants.{Pass, Block}
use Rattle.npf_model.specs.declared.ends.AddrItem.{AddrItem}
use Rattle.npf_model.specs.declared.ends.AddrItem.TheVariants.{Net, InTable}
use Rattle.npf_model.specs.declared.rule.Rule.{Rule}
use Rattle.npf_model.specs.declared.rule.StateOpt.{StateOpt}
use Rattle.npf_model.specs.declared.rule.StateOpt.TheVariants.{Not}
use Rattle.npf_model.specs.Describes.{is_v6}

-- a rule that passes and keeps what it passes asks of TCP for a segment that opens a connection
abbrev pub asks_opening : Decision → StateOpt → Bool
asks_opening (Block _) state = false
asks_opening Pass Not = false
asks_opening Pass _ = true

-- the address is of a family that may be
abbrev pub allows_family : Bool → Bool → Addr → Bool
allows_family v4 v6 addr = if is_v6 addr then v6 else v4

-- function 1 takes the table's number in the low 31 bits
abbrev pub HasItemNumber : AddrItem → Type 0
HasItemNumber (Net _) = ⊤
HasItemNumber (InTable table) = table < 2 ^ 31

abbrev pub HasItemNumbers : Option (List AddrItem) → Type 0
HasItemNumbers None = ⊤
HasItemNumbers (Some items) = All HasItemNumber items

pub record HasTableNumbers (rule : Rule) : Type 0 where
  pub from : HasItemNumbers rule.from.addrs
  pub to : HasItemNumbers rule.to.addrs
