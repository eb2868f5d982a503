use Rattle.std.proofs.Common.{◌≡◌, length, take}
use Rattle.npf_types.specs.declared.name.Name.{Name}
use Rattle.npf_expand_interfaces.{specs.IfaceFile.{file_lines, bytes_of_lines, iface_names, AreInterfaces}, proofs.IfaceFileLemmas.has_name}
use Rattle.npf_expand_interfaces.proofs.iface_file.read_ifaces.Given as goal

abbrev pub invariant-loop-line : goal.invariant-loop-line
invariant-loop-line l = record {
  can : (goal.iterator-loop-line).can_next l.line-iterator;
  finite : (goal.iterator-loop-line).is_finite l.line-iterator;
  counted : l.number ≡ length l.yielded;
  passed : l.at ≡ bytes_of_lines (take (length l.yielded) (file_lines l.fn.text));
  good : AreInterfaces (take (length l.yielded) (file_lines l.fn.text)) l.ifaces.items;
  known : (name : Name) → has_name l.names.keys name ≡ has_name (iface_names l.ifaces.items) name;
}
