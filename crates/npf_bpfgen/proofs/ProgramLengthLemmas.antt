-- A program is no longer than its rule weighs.
use Rattle.std.{proofs.Common.{ℕ, ◌+◌, ◌≤◌, Bool, true, false, Option, Some, None, List, [], ◌∷◌, length, arith}, specs.Prelude.{◌*◌, if◌then◌else◌}}
use Rattle.std.{specs.List.{list_any, sum_by}, proofs.lemmas.List.Sums.sum_by-cons}
use Rattle.npf_types.specs.declared.{address.Addr.{Addr, TheVariants.{V4, V6}}, decision.Decision.Decision}
use Rattle.npf_model.specs.{declared.{ends.{AddrItem.{AddrItem, TheVariants.{Net, InTable}}, Ends.Ends}, rule.{Rule.Rule, StateOpt.StateOpt}}, Count.listed, Describes.item_allows}
use Rattle.npf_bpfgen.specs.Condition.{asks_opening}
use Rattle.npf_bpfgen.specs.ProgramLength.{addrs_length, block_length, ends_length, families_length, family_length}
use Rattle.npf_bpfgen.specs.ProgramLength.{flags_length, icmp_length, item_length, ports_length, program_length, protocols_length}
use Rattle.npf_bpfgen.specs.RuleWeight.{block_weight, ends_weight, item_weight, items_weight, weight_of}

most_of_family : (v6 : Option Bool) → family_length v6 ≤ 3
most_of_family None = omega arith
most_of_family (Some v6) = omega arith

most_of_protocols : (protos : List ℕ) → protocols_length protos ≤ 2 + 2 * length protos
most_of_protocols [] = omega arith
most_of_protocols (first ∷ others) = omega arith

most_of_kept : (asks : Bool) → (if asks then 7 else 0) ≤ 7
most_of_kept true = omega arith
most_of_kept false = omega arith

most_of_flags : (flags : Option (ℕ × ℕ)) (decision : Decision) (state : StateOpt) → flags_length flags decision state ≤ 7
most_of_flags (Some flags) decision state = omega arith
most_of_flags None decision state = most_of_kept (asks_opening decision state)

most_of_icmp : (icmp : Option (ℕ × Option ℕ)) → icmp_length icmp ≤ 15
most_of_icmp None = omega arith
most_of_icmp (Some (kind, None)) = omega arith
most_of_icmp (Some (kind, Some code)) = omega arith

most_of_block : (addr : Addr) → block_length addr ≤ block_weight addr
most_of_block (V4 a) = omega arith
most_of_block (V6 a) = omega arith

most_of_item : (item : AddrItem) → item_length item ≤ item_weight item
most_of_item (Net prefix) = most_of_block prefix.addr
most_of_item (InTable table) = omega arith

most_of_items : (items : List AddrItem) → sum_by item_length items ≤ sum_by item_weight items
most_of_items [] = omega arith
most_of_items (item ∷ items) =
    omega (arith, most_of_item item, most_of_items items, sum_by-cons item_length item items, sum_by-cons item_weight item items)

most_of_families : (v4 v6 : Bool) → families_length v4 v6 ≤ 3
most_of_families true true = omega arith
most_of_families true false = omega arith
most_of_families false true = omega arith
most_of_families false false = omega arith

most_of_addrs : (excluded : Bool) (addrs : Option (List AddrItem)) → addrs_length excluded addrs ≤ 3 + items_weight addrs
most_of_addrs true None = omega arith
most_of_addrs false None = omega arith
most_of_addrs false (Some items) = omega (arith, most_of_items items)
most_of_addrs true (Some items) =
    omega (arith, most_of_items items, most_of_families (list_any (item_allows false) items) (list_any (item_allows true) items))

most_of_ports : (ports : Option (List (ℕ × ℕ))) → ports_length ports ≤ 7 + 6 * listed ports
most_of_ports None = omega arith
most_of_ports (Some ranges) = omega arith

most_of_ends : (ends : Ends) → ends_length ends ≤ 10 + ends_weight ends
most_of_ends ends = omega (arith, most_of_addrs ends.excluded ends.addrs, most_of_ports ends.ports)

pub length_weighs : (rule : Rule) → program_length rule ≤ weight_of rule
length_weighs rule =
    omega (
      arith,
      most_of_family rule.v6,
      most_of_protocols rule.protos,
      most_of_flags rule.flags rule.decision rule.state,
      most_of_icmp rule.icmp,
      most_of_ends rule.from,
      most_of_ends rule.to,
    )
