-- What a written rule is: one rule, with its lists spliced, its words numbers and its functions addresses.
use Rattle.std.specs.Prelude.{ℕ, ◌+◌, Bool, true, false, ◌==◌, ◌&&◌, nat_le, nat_lt, is_some, if◌then◌else◌, Option, Some, None, List, [], ◌∷◌, ◌++◌, bit_or}
use Rattle.std.specs.List.{flat_map, list_any}
use Rattle.std.specs.Option.{option_map}
use Rattle.npf_types.specs.declared.decision.Decision.{Decision}
use Rattle.npf_types.specs.declared.decision.Decision.TheVariants.{Pass, Block}
use Rattle.npf_types.specs.declared.decision.Return.{Return}
use Rattle.npf_types.specs.declared.decision.Return.TheVariants.{Nothing, Any, Rst, Icmp}
use Rattle.npf_types.specs.declared.direction.Dir.{Dir}
use Rattle.npf_types.specs.declared.direction.Dir.TheVariants.{In, Out}
use Rattle.npf_types.specs.declared.limits.TheConstants.{MAX_LIST_ELEMENTS}
use Rattle.npf_types.specs.declared.span.Span.{Span}
use Rattle.npf_faults.specs.declared.fault.ConfFault.{ConfFault}
use Rattle.npf_faults.specs.declared.fault.Excess.TheVariants.{Elements}
use Rattle.npf_faults.specs.declared.fault.Fault.TheVariants.{TooMany}
use Rattle.npf_syntax.specs.declared.filter.Detail.{Detail}
use Rattle.npf_syntax.specs.declared.filter.EndsTree.{EndsTree as WrittenEnds}
use Rattle.npf_syntax.specs.declared.filter.EndsTree.TheVariants as EndsAre
use Rattle.npf_syntax.specs.declared.filter.Family.{Family}
use Rattle.npf_syntax.specs.declared.filter.Filter.{Filter}
use Rattle.npf_syntax.specs.declared.filter.ProtoPart.{ProtoPart}
use Rattle.npf_syntax.specs.declared.filter.Where.{Where}
use Rattle.npf_syntax.specs.declared.rule.BlockReturn.{BlockReturn}
use Rattle.npf_syntax.specs.declared.rule.Direction.{Direction}
use Rattle.npf_syntax.specs.declared.rule.RuleAction.{RuleAction}
use Rattle.npf_syntax.specs.declared.rule.RuleTree.{RuleTree}
use Rattle.npf_syntax.specs.declared.rule.Stateful.{Stateful}
use Rattle.npf_syntax.specs.declared.value.IfaceTree.{IfaceTree as WrittenIface}
use Rattle.npf_syntax.specs.declared.value.One.{One}
use Rattle.npf_syntax.specs.declared.word.Word.{Word}
use Rattle.npf_names.specs.declared.icmp.IcmpNames.{IcmpNames}
use Rattle.npf_names.specs.Icmp.{codes_of, types_of}
use Rattle.npf_model.specs.declared.ends.Ends.{Ends}
use Rattle.npf_model.specs.declared.iface.Iface.{Iface}
use Rattle.npf_model.specs.declared.rule.Rule.{Rule}
use Rattle.npf_model.specs.declared.rule.StateOpt.{StateOpt}
use Rattle.npf_model.specs.declared.rule.StateOpt.TheVariants.{Not, OnInterface, Everywhere}
use Rattle.npf_faults.specs.First.{fault_if}
use Rattle.npf_expand_values.specs.Address.{addresses_count, addresses_faults, address_items, is_excluded}
use Rattle.npf_expand_values.specs.Atom.{Env}
use Rattle.npf_expand_values.specs.Declarations.{Declared, table_number}
use Rattle.npf_expand_values.specs.Iface.{iface_faults, on_iface}
use Rattle.npf_expand_values.specs.Kept.{first_atom}
use Rattle.npf_expand_values.specs.Message.{icmp_names, message_faults, message_number}
use Rattle.npf_expand_values.specs.Port.{ports_count, ports_faults, ports_of}
use Rattle.npf_expand_values.specs.Protocol.{one_binding, protocols_faults, protocols_of, spliced_ones, written_ones}
use Rattle.npf_expand_values.specs.Use.{atoms_of, element_count, then_faults}

abbrev pub return_of : Option BlockReturn → Return
return_of None = Nothing
return_of (Some (BlockReturn.Return _)) = Any
return_of (Some (BlockReturn.ReturnRst _)) = Rst
return_of (Some (BlockReturn.ReturnIcmp _)) = Icmp

abbrev pub decision_of : RuleAction → Decision
decision_of (RuleAction.Block answer span) = Block (return_of answer)
decision_of (RuleAction.Pass span) = Pass

abbrev pub state_of_words : Option Stateful → StateOpt
state_of_words None = Not
state_of_words (Some (Stateful.Stateful _)) = OnInterface
state_of_words (Some (Stateful.StatefulAll _)) = Everywhere

abbrev pub dir_of : Direction → Dir
dir_of (Direction.In _) = In
dir_of (Direction.Out _) = Out

abbrev pub is_inet6 : Family → Bool
is_inet6 (Family.Inet4 _) = false
is_inet6 (Family.Inet6 _) = true

-- the control bits by their letters (RFC 9293 section 3.1, RFC 3168 section 6.1): F, S, R, P, A, U, E and W
abbrev pub flag_bit : ℕ → ℕ
flag_bit letter =
    if letter == 70 then 1
    else (if letter == 83 then 2
    else (if letter == 82 then 4
    else (if letter == 80 then 8
    else (if letter == 65 then 16
    else (if letter == 85 then 32
    else (if letter == 69 then 64
    else (if letter == 87 then 128 else 0)))))))

abbrev pub flag_bits : List ℕ → ℕ
flag_bits [] = 0
flag_bits (letter ∷ letters) = bit_or (flag_bit letter) (flag_bits letters)

-- flags without a mask are looked at through themselves
abbrev pub mask_bits : Word → Option Word → ℕ
mask_bits flags None = flag_bits flags.text
mask_bits flags (Some mask) = flag_bits mask.text

abbrev pub flags_of_detail : Option Detail → Option (ℕ × ℕ)
flags_of_detail (Some (Detail.Flags flags mask span)) = Some (flag_bits flags.text, mask_bits flags mask)
flags_of_detail _ = None

-- a code by itself or as one of the names that its type's codes have
abbrev pub code_of : Env → IcmpNames → ℕ → Option One → Option ℕ
code_of env names kind None = None
code_of env names kind (Some code) = message_number (codes_of names kind) env code

abbrev pub with_code : Env → IcmpNames → Option One → Option ℕ → Option (ℕ × Option ℕ)
with_code env names code None = None
with_code env names code (Some kind) = Some (kind, code_of env names kind code)

-- the type of ICMP, and the code where one is written
abbrev pub icmp_of_detail : Env → IcmpNames → Option Detail → Option (ℕ × Option ℕ)
icmp_of_detail env names (Some (Detail.IcmpType kind code span)) = with_code env names code (message_number (types_of names) env kind)
icmp_of_detail env names _ = None

abbrev pub icmp_of_part : Env → Option ProtoPart → Option (ℕ × Option ℕ)
icmp_of_part env None = None
icmp_of_part env (Some part) = icmp_of_detail env (icmp_names (spliced_ones env part.protocols)) part.detail

-- a name of a code is looked up among those of its type
abbrev pub code_faults : Env → IcmpNames → Option ℕ → Option One → List ConfFault
code_faults env names (Some kind) (Some code) = message_faults (codes_of names kind) env code
code_faults env names _ _ = []

abbrev pub message_detail_faults : Env → IcmpNames → One → Option One → List ConfFault
message_detail_faults env names kind code =
    then_faults (message_faults (types_of names) env kind) (code_faults env names (message_number (types_of names) env kind) code)

abbrev pub detail_faults : Env → IcmpNames → Option Detail → List ConfFault
detail_faults env names (Some (Detail.IcmpType kind code span)) = message_detail_faults env names kind code
detail_faults env names _ = []

-- a protocol that is there: a variable whose definition was refused gives nothing
abbrev pub gives_atom : Env → One → Bool
gives_atom env one = is_some (first_atom (atoms_of (one_binding env one)))

-- names of messages are looked up beside a protocol alone
abbrev pub detail_faults_beside : Env → List One → Option Detail → List ConfFault
detail_faults_beside env protocols detail =
    if list_any (gives_atom env) protocols
    then detail_faults env (icmp_names (flat_map (λ one. atoms_of (one_binding env one)) protocols)) detail else []

abbrev pub detail_of_part : Option ProtoPart → Option Detail
detail_of_part None = None
detail_of_part (Some part) = part.detail

abbrev pub any_ends : Ends
any_ends = record { excluded = false; addrs = None; ports = None }

-- the written ends of a filter, the source's first; a filter of pcap-filter(7) has none, and a check refuses it by the tree
abbrev pub source_ends : Where → Option WrittenEnds
source_ends (Where.All span) = None
source_ends (Where.From from to span) = Some from
source_ends (Where.PcapFilter span) = None
source_ends (Where.To to span) = None

abbrev pub destination_ends : Where → Option WrittenEnds
destination_ends (Where.All span) = None
destination_ends (Where.From from to span) = to
destination_ends (Where.PcapFilter span) = None
destination_ends (Where.To to span) = Some to

module _ (ifaces : List Iface) (env : Env) where
  abbrev pub ends_faults : Option WrittenEnds → List ConfFault
  ends_faults None = []
  ends_faults (Some (EndsAre.Addresses addresses ports span)) = addresses_faults ifaces env addresses ++ ports_faults ifaces env ports
  ends_faults (Some (EndsAre.Ports ports span)) = ports_faults ifaces env (Some ports)

  abbrev pub part_faults : Option ProtoPart → List ConfFault
  part_faults None = []
  part_faults (Some part) =
      then_faults (protocols_faults env part.protocols) (detail_faults_beside env (written_ones part.protocols) part.detail)

  abbrev pub filter_faults : Filter → List ConfFault
  filter_faults filter =
      part_faults filter.proto ++ ends_faults (source_ends filter.ends) ++ ends_faults (destination_ends filter.ends)

  abbrev pub ends_count : Option WrittenEnds → ℕ
  ends_count None = 0
  ends_count (Some (EndsAre.Addresses addresses ports span)) = addresses_count ifaces env addresses + ports_count ifaces env ports
  ends_count (Some (EndsAre.Ports ports span)) = ports_count ifaces env (Some ports)

  abbrev pub part_count : Option ProtoPart → ℕ
  part_count None = 0
  part_count (Some part) = element_count (spliced_ones env part.protocols)

  -- how many elements the lists of a filter have once they are spliced; where the filter has no fault they are those of its rule
  abbrev pub filter_count : Filter → ℕ
  filter_count filter = part_count filter.proto + ends_count (source_ends filter.ends) + ends_count (destination_ends filter.ends)

  abbrev pub on_faults : Option WrittenIface → List ConfFault
  on_faults None = []
  on_faults (Some iface) = iface_faults env iface

  -- the faults of a rule but for the number of its elements
  abbrev pub rule_faults : RuleTree → List ConfFault
  rule_faults tree = on_faults tree.on ++ filter_faults tree.filter

  abbrev pub part_protocols : Option ProtoPart → List ℕ
  part_protocols None = []
  part_protocols (Some part) = protocols_of env part.protocols

  abbrev pub ends_of_written : List (List ℕ) → Option WrittenEnds → Ends
  ends_of_written tables None = any_ends
  ends_of_written tables (Some (EndsAre.Addresses addresses ports span)) =
      record { excluded = is_excluded addresses; addrs = address_items ifaces env tables addresses; ports = ports_of ifaces env ports }
  ends_of_written tables (Some (EndsAre.Ports ports span)) = record { excluded = false; addrs = None; ports = ports_of ifaces env (Some ports) }

  -- the rule of a filter alone: it passes, keeps no state and is bound to nothing
  abbrev pub filter_rule : List (List ℕ) → Filter → Rule
  filter_rule tables filter = record {
    decision = Pass;
    state = Not;
    dir = None;
    last = false;
    on = None;
    v6 = option_map is_inet6 filter.family;
    protos = part_protocols filter.proto;
    flags = flags_of_detail (detail_of_part filter.proto);
    icmp = icmp_of_part env filter.proto;
    from = ends_of_written tables (source_ends filter.ends);
    to = ends_of_written tables (destination_ends filter.ends);
    procedure = None;
  }

  abbrev pub rule_of_tree : Declared → RuleTree → Rule
  rule_of_tree declared tree = record (filter_rule declared.tables tree.filter) {
    decision = decision_of tree.action;
    state = state_of_words tree.stateful;
    dir = option_map dir_of tree.dir;
    last = tree.last;
    on = option_map (on_iface ifaces env) tree.on;
    procedure = option_map (λ string. table_number declared.procedures string.text) tree.apply;
  }

-- the elements of all lists pass their greatest number at the rule at which the sum so far does
abbrev pub passing_faults : ℕ → ℕ → Span → List ConfFault
passing_faults before more span =
    fault_if (nat_le before MAX_LIST_ELEMENTS && nat_lt MAX_LIST_ELEMENTS (before + more)) span (TooMany Elements (MAX_LIST_ELEMENTS + 1))
