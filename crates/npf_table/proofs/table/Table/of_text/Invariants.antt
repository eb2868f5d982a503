use Rattle.std.proofs.Common.{◌≡◌, length, take}
use Rattle.npf_table.specs.TableFile.{lines, AreEntries}
use Rattle.npf_table.proofs.table.Table.of_text.Given as goal

abbrev pub invariant-loop-line : goal.invariant-loop-line
invariant-loop-line l = record {
  can : (goal.iterator-loop-line).can_next l.line-iterator;
  finite : (goal.iterator-loop-line).is_finite l.line-iterator;
  counted : l.number ≡ length l.yielded;
  entries : AreEntries l.kind (take (length l.yielded) (lines l.text)) l.prefixes.items;
}
