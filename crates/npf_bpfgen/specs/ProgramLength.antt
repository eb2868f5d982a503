-- How many instructions the program of a rule has: one that begins it and one that ends it, and in between those that test each of
-- the rule's conditions. A condition that the rule doesn't have takes none.
use Rattle.std.specs.Prelude.{ℕ, ◌+◌, ◌*◌, Bool, true, false, Option, Some, None, List, [], ◌∷◌, length, if◌then◌else◌}
use Rattle.std.specs.List.{list_any, sum_by}
use Rattle.npf_types.specs.declared.address.Addr.{Addr}
use Rattle.npf_types.specs.declared.address.Addr.TheVariants.{V4, V6}
use Rattle.npf_types.specs.declared.decision.Decision.{Decision}
use Rattle.npf_model.specs.declared.ends.AddrItem.{AddrItem}
use Rattle.npf_model.specs.declared.ends.AddrItem.TheVariants.{Net, InTable}
use Rattle.npf_model.specs.declared.ends.Ends.{Ends}
use Rattle.npf_model.specs.declared.rule.Rule.{Rule}
use Rattle.npf_model.specs.declared.rule.StateOpt.{StateOpt}
use Rattle.npf_model.specs.Describes.{item_allows}
use Rattle.npf_bpfgen.specs.Condition.{asks_opening}

-- the version is loaded and compared, and 0 returned
abbrev pub family_length : Option Bool → ℕ
family_length None = 0
family_length (Some v6) = 3

-- the protocol is loaded, then compared with each of the list, and 0 returned
abbrev pub protocols_length : List ℕ → ℕ
protocols_length [] = 0
protocols_length (first ∷ others) = 2 + 2 * length (first ∷ others)

-- the protocol is tested and the control bits are loaded, masked and compared, whether the rule names them or only implies them
abbrev pub flags_length : Option (ℕ × ℕ) → Decision → StateOpt → ℕ
flags_length (Some flags) decision state = 7
flags_length None decision state = if asks_opening decision state then 7 else 0

-- 8 test the protocol of each family, 4 the type, or 7 the type and the code
abbrev pub icmp_length : Option (ℕ × Option ℕ) → ℕ
icmp_length None = 0
icmp_length (Some (kind, None)) = 12
icmp_length (Some (kind, Some code)) = 15

-- an IPv6 address is compared word by word, a table asked by the coprocessor; behind each stands a jump over the rest of its list, or 0 is
-- returned there
abbrev pub block_length : Addr → ℕ
block_length (V4 _) = 6
block_length (V6 _) = 15

abbrev pub item_length : AddrItem → ℕ
item_length (Net prefix) = block_length prefix.addr
item_length (InTable _) = 4

-- where some family has no item of an excluded list, the version is tested; where none has any, 0 is returned
abbrev pub families_length : Bool → Bool → ℕ
families_length true true = 0
families_length false false = 1
families_length _ _ = 3

-- a list of addresses, behind which 0 is returned, or, where it is excluded, behind each of whose items 0 is returned
abbrev pub addrs_length : Bool → Option (List AddrItem) → ℕ
addrs_length excluded None = 0
addrs_length false (Some items) = 1 + sum_by item_length items
addrs_length true (Some items) = families_length (list_any (item_allows false) items) (list_any (item_allows true) items) + sum_by item_length items

-- 6 load the port of TCP or UDP, 3 test each range, and 0 is returned
abbrev pub ports_length : Option (List (ℕ × ℕ)) → ℕ
ports_length None = 0
ports_length (Some ranges) = 7 + 3 * length ranges

abbrev pub ends_length : Ends → ℕ
ends_length ends = addrs_length ends.excluded ends.addrs + ports_length ends.ports

abbrev pub program_length : Rule → ℕ
program_length rule =
    2 + family_length rule.v6 + protocols_length rule.protos + flags_length rule.flags rule.decision rule.state + icmp_length rule.icmp
    + ends_length rule.from + ends_length rule.to
