-- The lists of a rule are as short as its compilation asks, where the elements that are counted of its filter keep the limit.
use Rattle.std.proofs.Common.{◌≤◌, ℕ, Option, Some, None, List, arith}
use Rattle.npf_types.specs.declared.limits.TheConstants.{MAX_LIST_ELEMENTS}
use Rattle.npf_syntax.specs.declared.{filter.EndsTree.EndsTree as WrittenEnds, rule.RuleTree.RuleTree}
use Rattle.npf_syntax.specs.declared.filter.EndsTree.TheVariants as EndsAre
use Rattle.npf_model.specs.declared.iface.Iface.{Iface}
use Rattle.npf_expand_values.specs.{Atom.Env, Declarations.Declared}
use Rattle.npf_expand.specs.Rule.{ends_count, ends_of_written, filter_count, rule_of_tree, source_ends, destination_ends}
use Rattle.npf_expand.proofs.CountedLemmas.{addresses_few, part_few, ports_few}
use Rattle.npf_bpfgen.specs.RuleWeight.{HasShortEnds, HasShortLists}

module _ (ifaces : List Iface) (env : Env) (tables : List (List ℕ)) where
  ends_short : (ends : Option WrittenEnds) → ends_count ifaces env ends ≤ MAX_LIST_ELEMENTS → HasShortEnds (ends_of_written ifaces env tables ends)
  ends_short None few = record { addrs = omega arith; ports = omega arith }
  ends_short (Some (EndsAre.Addresses addresses ports span)) few =
      let of_addresses = addresses_few ifaces env tables addresses in
      let of_ports = ports_few ifaces env tables ports in
      record { addrs = omega arith; ports = omega arith }
  ends_short (Some (EndsAre.Ports ports span)) few =
      let of_ports = ports_few ifaces env tables (Some ports) in
      record { addrs = omega arith; ports = omega arith }

pub rule_short : (ifaces : List Iface) (env : Env) (declared : Declared) (rule : RuleTree) → filter_count ifaces env rule.filter ≤ MAX_LIST_ELEMENTS
    → HasShortLists (rule_of_tree ifaces env declared rule)
rule_short ifaces env declared rule few =
    let of_part = part_few ifaces env declared.tables rule.filter.proto in
    record {
      protos = omega arith;
      from = ends_short ifaces env declared.tables (source_ends rule.filter.ends) (omega arith);
      to = ends_short ifaces env declared.tables (destination_ends rule.filter.ends) (omega arith);
    }
